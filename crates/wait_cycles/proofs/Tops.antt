-- The greatest member of a cycle, and who waits for a member.
use Rattle.std.proofs.Common.{◌≡◌, ℕ, nat_eq, Bool, true, false, ◌||◌, refl, List, [], ◌∷◌, inl, inr, sym, subst, arith}
use Rattle.std.proofs.lemmas.Bool.{false≢true, eqb-true, or_cases, or_right, cases_lt}
use Rattle.wait_cycles.specs.Cycles.{Pairs, IsCycle, IsGreatest, WaitInTurn, is_member, waits_in}
use Rattle.wait_cycles.proofs.Lists.{member_here}

pub greatest_of : (x : ℕ) (xs : List ℕ) → (a : ℕ) × IsGreatest a (x ∷ xs)
greatest_of x [] = (
  x,
  record {
    member = member_here x [];
    others = λ b e.
        elim (or_cases (nat_eq b x) false e) [
          | inl here ↦ let same = eqb-true b x here in omega (arith, same)
          | inr later ↦ absurd (false≢true later)
        ];
  },
)
greatest_of x (y ∷ ys) =
    let g = greatest_of y ys in
    elim (cases_lt g.0 x) [
      | inl less ↦ (
        x,
        record {
          member = member_here x (y ∷ ys);
          others = λ b e.
              elim (or_cases (nat_eq b x) (is_member b (y ∷ ys)) e) [
                | inl here ↦ let same = eqb-true b x here in omega (arith, same)
                | inr later ↦ let most = g.1.others b later in omega (arith, most, less)
              ];
        },
      )
      | inr past ↦ (
        g.0,
        record {
          member = or_right (nat_eq g.0 x) (is_member g.0 (y ∷ ys)) g.1.member;
          others = λ b e.
              elim (or_cases (nat_eq b x) (is_member b (y ∷ ys)) e) [
                | inl here ↦ let same = eqb-true b x here in omega (arith, same, past)
                | inr later ↦ g.1.others b later
              ];
        },
      )
    ]

module _ (pairs : Pairs) where
  -- each that is waited for in turn is waited for by one before it
  before : (b a : ℕ) (xs : List ℕ) (last : ℕ) → WaitInTurn pairs a xs last → (is_member b xs || nat_eq b last) ≡ true
      → (c : ℕ) × (is_member c (a ∷ xs) ≡ true) × (waits_in pairs c b ≡ true)
  before b a [] last turn e =
      (a, member_here a [], subst (λ (x : ℕ). waits_in pairs a x ≡ true) (sym (eqb-true b last e)) turn)
  before b a (x ∷ xs) last turn e =
      elim (or_cases (nat_eq b x) (is_member b xs || nat_eq b last) (reassociate (nat_eq b x) (is_member b xs) (nat_eq b last) e)) [
        | inl here ↦ (a, member_here a (x ∷ xs), subst (λ (y : ℕ). waits_in pairs a y ≡ true) (sym (eqb-true b x here)) turn.0)
        | inr later ↦ let c = before b x xs last turn.1 later in (c.0, or_right (nat_eq c.0 a) (is_member c.0 (x ∷ xs)) c.1, c.2)
      ]
    where
      reassociate : (p q r : Bool) → ((p || q) || r) ≡ true → (p || (q || r)) ≡ true
      reassociate true q r f = refl
      reassociate false q r f = f

  pub waited_for : (ys : List ℕ) → IsCycle pairs ys → (b : ℕ) → is_member b ys ≡ true → (c : ℕ) × (is_member c ys ≡ true) × (waits_in pairs c b ≡ true)
  waited_for [] cycle b e = absurd cycle
  waited_for (y ∷ ys) cycle b e = before b y ys y cycle.1 (turned (nat_eq b y) (is_member b ys) e)
    where
      turned : (p q : Bool) → (p || q) ≡ true → (q || p) ≡ true
      turned true true f = refl
      turned true false f = refl
      turned false true f = refl
      turned false false f = f
