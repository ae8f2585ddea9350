-- Bytes that are written one part after another.
use Rattle.std.proofs.Common.{◌≢◌, ◌<◌, ℕ, List, [], ◌∷◌, ◌++◌, length, Option, Some, None, take, drop, append_assoc, append-nil, refl, sym, ◌∙◌, ap, arith, length-drop, take-append-drop, Result, Ok, Err, IsErr, OnErr, OnOk}
use Rattle.std.specs.Io.KnownBytes.{Appends, Keeps}
use Rattle.txn_bytes.specs.Written.{AppendsFront, Puts, Writer}
use Rattle.txn_bytes.specs.declared.sink.WriteFault.{WriteFault}

pub then : (a b c : Option (List ℕ)) (x y : List ℕ) → Appends a b x → Appends b c y → Appends a c (x ++ y)
then None b c x y h k = tt
then (Some p) None c x y h k = absurd h
then (Some p) (Some q) None x y h k = absurd k
then (Some p) (Some q) (Some r) x y h k = k ∙ ap (λ z. z ++ y) h ∙ append_assoc p x y

pub nothing : (a : Option (List ℕ)) → Appends a a []
nothing None = tt
nothing (Some p) = sym (append-nil p)

-- a writer that keeps what it holds adds nothing to what was written before
pub kept : (a b c : Option (List ℕ)) (x : List ℕ) → Appends a b x → Keeps b c → Appends a c x
kept None b c x h k = tt
kept (Some p) None c x h k = absurd h
kept (Some p) (Some q) None x h k = absurd k
kept (Some p) (Some q) (Some r) x h k = k ∙ h

-- bytes that were written whole, and then a beginning of others
pub then_front : (a b c : Option (List ℕ)) (x y : List ℕ) → Appends a b x → AppendsFront b c y → AppendsFront a c (x ++ y)
then_front a b c x y h k = record {
  front = x ++ k.front;
  rest = k.rest;
  parts = ap (λ z. x ++ z) k.parts ∙ sym (append_assoc x k.front k.rest);
  short = k.short;
  written = then a b c x k.front h k.written;
}

longer : (xs ys : List ℕ) → xs ≢ [] → xs ++ ys ≢ []
longer [] ys h e = h refl
longer (x ∷ xs) ys h e = absurd (cc)

left : (n : ℕ) (xs : List ℕ) → n < length xs → drop n xs ≢ []
left n xs h e = omega (arith, h, length-drop n xs, ap (λ (ys : List ℕ). length ys) e)

-- a beginning, where more was to come
pub front_of : (a b : Option (List ℕ)) (x y : List ℕ) → AppendsFront a b x → AppendsFront a b (x ++ y)
front_of a b x y h = record {
  front = h.front;
  rest = h.rest ++ y;
  parts = ap (λ z. z ++ y) h.parts ∙ append_assoc h.front h.rest y;
  short = longer h.rest y h.short;
  written = h.written;
}

pub front_taken : (a b : Option (List ℕ)) (n : ℕ) (xs : List ℕ) → n < length xs → Appends a b (take n xs) → AppendsFront a b xs
front_taken a b n xs within h = record {
  front = take n xs;
  rest = drop n xs;
  parts = sym (take-append-drop n xs);
  short = left n xs within;
  written = h;
}

-- what holds anyway holds at an error
pub on_err : {T E Q : Type 0} (r : Result T E) → Q → OnErr r Q
on_err (Ok x) q = tt
on_err (Err e) q = q

-- bytes that were written whole, and then a call that may have failed
pub then_on_err : {T E : Type 0} (a b c : Option (List ℕ)) (x y : List ℕ) (r : Result T E) → Appends a b x → OnErr r (AppendsFront b c y) → OnErr r (AppendsFront a c (x ++ y))
then_on_err a b c x y (Ok v) h k = tt
then_on_err a b c x y (Err e) h k = then_front a b c x y h k

pub then_on_ok : {T E : Type 0} (a b c : Option (List ℕ)) (x y : List ℕ) (r : Result T E) → Appends a b x → OnOk r (Appends b c y) → OnOk r (Appends a c (x ++ y))
then_on_ok a b c x y (Ok v) h k = then a b c x y h k
then_on_ok a b c x y (Err e) h k = tt

-- ---- what functions that print do

module _ {W : Type 0} {w : Writer W} where
  -- where there is nothing to print
  pub puts_none : {a : W} {done : Unit {0}} → Puts w a a [] (Ok done)
  puts_none {a = a} {done = done} = record { ok = nothing (w.contents a); err = tt; asked = tt }

  -- one part after another
  pub puts_then : {a b c : W} {x y : List ℕ} {done : Unit {0}} {r : Result (Unit {0}) WriteFault} → Puts w a b x (Ok done) → Puts w b c y r → Puts w a c (x ++ y) r
  puts_then {a = a} {b = b} {c = c} {x = x} {y = y} {done = done} {r = Ok u} h k = record { ok = then (w.contents a) (w.contents b) (w.contents c) x y h.ok k.ok; err = tt; asked = tt }
  puts_then {a = a} {b = b} {c = c} {x = x} {y = y} {done = done} {r = Err fault} h k = record { ok = tt; err = then_front (w.contents a) (w.contents b) (w.contents c) x y h.ok k.err; asked = k.asked }

  -- a part was cut off, and another was to come
  pub cut_before : {a b : W} {x : List ℕ} {fault : WriteFault} (y : List ℕ) → Puts w a b x (Err fault) → Puts w a b (x ++ y) (Err fault)
  cut_before {a = a} {b = b} {x = x} {fault = fault} y h = record { ok = tt; err = front_of (w.contents a) (w.contents b) x y h.err; asked = h.asked }

  -- an error that a `?` hands on
  pub handed_on : {a b : W} {x : List ℕ} {fault : WriteFault} {r : Result (Unit {0}) WriteFault} → Puts w a b x (Err fault) → IsErr r → Puts w a b x r
  handed_on {a = a} {b = b} {x = x} {fault = fault} {r = Ok done} h e = absurd (cc)
  handed_on {a = a} {b = b} {x = x} {fault = fault} {r = Err f} h e = record { ok = tt; err = h.err; asked = h.asked }
