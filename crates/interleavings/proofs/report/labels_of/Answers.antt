use Rattle.std.proofs.Common.{◌≡◌, List, ℕ, [], ◌∷◌, ◌++◌, rules, ap, ◌∙◌, arith}
use Rattle.interleavings.proofs.Labels.{label_there, labels_more, labels_all}
use Rattle.interleavings.proofs.report.labels_of.Goals as goal

pub loop-label-preserved : goal.loop-label-preserved
loop-label-preserved c =
    let ss = c.args.sessions.now in
    let n = c.loop-label.session in
    let pushed : c.push.new.self.items ≡ c.loop-label.labels.items ++ c.in-Some.label.now ∷ [] = search rules in
    record {
      few = c.loop-label.invariant.few;
      within = omega (arith, label_there ss n c.in-Some.label.now c.in-Some.ensures);
      labels = pushed ∙ ap (λ (ls : List (List ℕ)). ls ++ c.in-Some.label.now ∷ []) c.loop-label.invariant.labels ∙ labels_more ss n c.in-Some.label.now c.in-Some.ensures;
    }

pub returns-clause-ok : goal.returns-clause-ok
returns-clause-ok c = c.loop-label.invariant.labels ∙ labels_all c.args.sessions.now c.loop-label.session c.in_default.ensures
