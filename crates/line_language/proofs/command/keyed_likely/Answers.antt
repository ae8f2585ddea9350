use Rattle.std.proofs.Common.{Ok, ap}
use Rattle.serial_spec.specs.declared.event.Event.TheVariants.{Access}
use Rattle.line_language.specs.declared.fault.LineKind.TheVariants as kind
use Rattle.line_language.specs.Steps.{◌>>=◌, or_fault}
use Rattle.line_language.proofs.Accesses.{keyed_known}
use Rattle.line_language.proofs.command.keyed_likely.Goals as goal

pub returns-in-Ok-clause-read : goal.returns-in-Ok-clause-read
returns-in-Ok-clause-read c =
    let read = keyed_known c.args.name.now c.args.key.now c.requires c.in-Ok.ensures.key (ap (or_fault kind.Key) c.in-Ok.ensures.read) in
    ap (λ r. r >>= λ q. Ok (Access q.0 q.1 c.args.op)) read
