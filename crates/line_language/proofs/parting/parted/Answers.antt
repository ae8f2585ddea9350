use Rattle.std.proofs.Common.{eqb, sym, ◌∙◌}
use Rattle.line_language.proofs.Cutting.{before_all, before_first, cut_first, uncut}
use Rattle.line_language.proofs.parting.parted.Goals as goal

pub returns-in-Some-clause-before : goal.returns-in-Some-clause-before
returns-in-Some-clause-before c =
    sym (before_first c.args._at c.args.bytes.now c.in-Some.end (sym c.requires ∙ c.in-Some.is)).0

pub returns-in-Some-clause-behind : goal.returns-in-Some-clause-behind
returns-in-Some-clause-behind c =
    sym (before_first c.args._at c.args.bytes.now c.in-Some.end (sym c.requires ∙ c.in-Some.is)).1

pub returns-in-None-clause-before : goal.returns-in-None-clause-before
returns-in-None-clause-before c =
    sym (before_all c.args._at c.args.bytes.now (sym c.requires ∙ c.in-None.is)).0

pub returns-in-None-clause-behind : goal.returns-in-None-clause-behind
returns-in-None-clause-behind c =
    sym (before_all c.args._at c.args.bytes.now (sym c.requires ∙ c.in-None.is)).1

pub returns-in-Some-clause-parts : goal.returns-in-Some-clause-parts
returns-in-Some-clause-parts c =
    cut_first (λ b. eqb b c.args._at) c.args.bytes.now c.in-Some.end (sym c.requires ∙ c.in-Some.is)

pub returns-in-None-clause-parts : goal.returns-in-None-clause-parts
returns-in-None-clause-parts c =
    uncut (λ b. eqb b c.args._at) c.args.bytes.now (sym c.requires ∙ c.in-None.is)
