use Rattle.std.proofs.Common.{◌≡◌, ℕ, Bool, true, false, List, ◌++◌, ◌-◌, ◌≤◌, length, take, refl, ap, ◌∙◌, arith, length-take}
use Rattle.std.specs.Bool.{MatchBool}
use Rattle.request_lines.specs.Keeping.{Keeps}
use Rattle.request_lines.proofs.Filling.{adds_all, adds_front}
use Rattle.request_lines.proofs.kept.Kept.add.Goals as goal

-- what there was room for was added
added : (P Q R S : Type 0) (b : Bool) → MatchBool b (P × Q) (R × S) → (R → ⊥) → Q
added P Q R S true h fits = h.1
added P Q R S false h fits = absurd (fits h.0)

pub returns-then-extend : goal.returns-then-extend
returns-then-extend c =
    let kept : c.self.inside.bytes ≡ c.args.self.now.kept = ap (λ (k : Keeps). k.kept) c.self.view_is in
    let more : c.self.inside.more ≡ c.args.self.now.more = ap (λ (k : Keeps). k.more) c.self.view_is in
    adds_all c.args.bytes.now c.args.self.now _
    (omega (arith, c.if-extend.ensures.0, ap (λ (ys : List ℕ). length ys) kept))
    (c.if-extend.ensures.1 ∙ ap (λ (ys : List ℕ). ys ++ c.args.bytes.now) kept) more

pub returns : goal.returns
returns c =
    let held : List ℕ = c.extend.new.self in
    let kept : held ≡ c.args.self.now.kept = c.if-extend.ensures.1 ∙ ap (λ (k : Keeps). k.kept) c.self.view_is in
    let same : length c.as_bytes.result.now ≡ length held = ap (λ (ys : List ℕ). length ys) c.as_bytes.ensures.value in
    let most : length c.as_bytes.result.now ≤ 346 = c.as_bytes.ensures.fits in
    let room : ℕ = 346 - length c.as_bytes.result.now in
    adds_front c.args.bytes.now c.args.self.now _ room
    (omega (arith, most, same, ap (λ (ys : List ℕ). length ys) kept))
    (omega (arith, most, same, c.if-extend.ensures.0, ap (λ (ys : List ℕ). length ys) c.if-extend.ensures.1))
    (added _ _ _ _ c.extend-2.result c.extend-2.ensures (λ less. omega (arith, less, most, same, length-take room c.args.bytes.now))
    ∙ ap (λ (ys : List ℕ). ys ++ take room c.args.bytes.now) kept)
    refl
