use Rattle.std.proofs.Common.{◌≡◌, ℕ, List, Some, subst}
use Rattle.std.specs.Prelude.{slice_get}
use Rattle.std.specs.Map.{keys_of}
use Rattle.serial_spec.specs.declared.operation.Op.{Op}
use Rattle.serial_spec.specs.declared.target.Asked.{Asked}
use Rattle.serial_spec.specs.declared.target.Asked.TheVariants as asked
use Rattle.report_tables.specs.Chained.{Asks, Known, known_by}
use Rattle.report_tables.specs.Served.{IsServed}
use Rattle.report_tables.specs.declared.chains.ByNumber.{ByNumber}
use Rattle.report_tables.specs.declared.chains.ByNumber.TheVariants.{At}
use Rattle.report_tables.proofs.serving.serve.Goals as goal

-- what is asked of a key by its number
at_key : (known : Known) (n : ℕ) (o : Op) (P : Asked → Type 0) (a : Asked) → Asks known (At n o) a → ((k : List ℕ) → slice_get known.keys n ≡ Some k → P (asked.At k o)) → P a
at_key known n o P (asked.At k q) h f = subst (λ p. P (asked.At k p)) h.1 (f k h.0)
at_key known n o P (asked.Over g) h f = absurd h

pub returns-in-At-clause-served : goal.returns-in-At-clause-served
returns-in-At-clause-served c a asks =
    let es = c.args.values.now.entries in
    let known : Known = known_by (keys_of es) (keys_of c.args.groups.now.entries) in
    at_key known c.in-At.number c.in-At.op (λ q. IsServed q c.args.access.now.reply es c.serve_at_key.new.values.entries c.serve_at_key.result) a
    (subst (λ (x : ByNumber). Asks known x a) c.in-At.is asks) c.serve_at_key.ensures.served
