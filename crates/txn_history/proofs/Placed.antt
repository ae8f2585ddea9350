-- The state of a line by the place of its entry is its state by the entry's event.
use Rattle.std.proofs.Common.{◌≡◌, ◌↔◌, ℕ, zero, suc, Bool, true, false, cond, List, [], ◌∷◌, ◌++◌, length, reverse, Option, Some, None, unwrap_or, refl, sym, ap, subst, ◌∙◌}
use Rattle.std.specs.Prelude.{slice_get}
use Rattle.std.proofs.lemmas.List.{length-reverse, reverse-append}
use Rattle.std.proofs.lemmas.Option.{none-some}
use Rattle.serial_spec.specs.declared.entry.By.TheVariants.{Line}
use Rattle.serial_spec.specs.declared.entry.Entry.{Entry}
use Rattle.serial_spec.specs.declared.event.Event.{Event}
use Rattle.serial_spec.specs.History.{History}
use Rattle.serial_spec.specs.Waits.{same_line, is_waits}
use Rattle.txn_history.specs.Tables.{IsAt, Place, alone_at, place_of, state_of}

get_front : {X : Type 0} (xs ys : List X) (n : ℕ) (x : X) → slice_get xs n ≡ Some x → slice_get (xs ++ ys) n ≡ Some x
get_front [] ys n x at = absurd (none-some x at)
get_front (y ∷ xs) ys zero x at = at
get_front (y ∷ xs) ys (suc n) x at = get_front xs ys n x at

get_last : {X : Type 0} (xs : List X) (x : X) → slice_get (xs ++ x ∷ []) (length xs) ≡ Some x
get_last [] x = refl
get_last (y ∷ xs) x = get_last xs x

-- what the state by place says of the state by event
abbrev Stands : History → Place → Option (Option ℕ) → Type 0
Stands h p None = state_of h p ≡ None
Stands h p (Some None) = state_of h p ≡ Some None
Stands h p (Some (Some n)) = (e : Entry) × (slice_get (reverse h) n ≡ Some e) × (state_of h p ≡ Some (Some e.event))

stands : (h : History) (p : Place) → Stands h p (place_of h p)
stands [] p = refl
stands (e ∷ h) p = by (same_line e.by (Line p.0 p.1)) refl (place_of h p) (stands h p)
  where
    turned : reverse (e ∷ h) ≡ reverse h ++ e ∷ []
    turned = reverse-append (e ∷ []) h

    newest : slice_get (reverse (e ∷ h)) (length h) ≡ Some e
    newest = ap (λ es. slice_get es (length h)) turned ∙ ap (slice_get (reverse h ++ e ∷ [])) (sym (length-reverse h)) ∙ get_last (reverse h) e

    first : (w : Bool) → is_waits e.answer ≡ w → same_line e.by (Line p.0 p.1) ≡ true → state_of h p ≡ None → Stands (e ∷ h) p (Some (cond w (Some (length h)) None))
    first true waits own none = (e, newest, rw (own, none, waits) refl)
    first false waits own none = rw (own, none, waits) refl

    older : same_line e.by (Line p.0 p.1) ≡ false → (q : Option ℕ) → Stands h p (Some q) → Stands (e ∷ h) p (Some q)
    older other None s = rw other s
    older other (Some n) s = (s.0, ap (λ es. slice_get es n) turned ∙ get_front (reverse h) (e ∷ []) n s.0 s.1, rw other s.2)

    second : same_line e.by (Line p.0 p.1) ≡ true → (q : Option ℕ) → Stands h p (Some q) → Stands (e ∷ h) p (Some None)
    second own None s = rw (own, s) refl
    second own (Some n) s = rw (own, s.2) refl

    by : (b : Bool) → same_line e.by (Line p.0 p.1) ≡ b → (o : Option (Option ℕ)) → Stands h p o → Stands (e ∷ h) p (cond b (Some (alone_at o e (length h))) o)
    by false other None s = rw other s
    by false other (Some q) s = older other q s
    by true own None s = first (is_waits e.answer) refl own s
    by true own (Some q) s = second own q s

-- so a look-up by place finds the state
pub record IsFound (h : History) (p : Place) (place : Option ℕ) (event : Event) : Type 0 where
  pub state : Option Event
  pub is : state_of h p ≡ Some state
  pub same : IsAt (reverse h) place event ↔ (state ≡ Some event)

pub found : (h : History) (p : Place) (place : Option ℕ) (event : Event) → place_of h p ≡ Some place → IsFound h p place event
found h p place event at = by place (subst (Stands h p) at (stands h p))
  where
    by : (q : Option ℕ) → Stands h p (Some q) → IsFound h p q event
    by None s = record { state = None; is = s; same = (λ f. absurd (none-some f.0 f.2), λ f. absurd (none-some event f)) }
    by (Some n) s = record {
      state = Some s.0.event;
      is = s.2;
      same = (
        λ f.
            let number : n ≡ f.0 = ap (λ o. unwrap_or o n) f.2 in
            let entry : s.0 ≡ f.1 = ap (λ o. unwrap_or o s.0) (sym s.1 ∙ ap (slice_get (reverse h)) number ∙ f.3) in
            ap (λ (e : Entry). Some e.event) entry ∙ ap (λ (x : Event). Some x) f.4,
        λ f. (n, s.0, refl, s.1, ap (λ o. unwrap_or o s.0.event) f),
      );
    }

-- a line without a place has other state
pub placeless : (h : History) (p : Place) → place_of h p ≡ None → state_of h p ≡ None
placeless h p at = subst (Stands h p) at (stands h p)
