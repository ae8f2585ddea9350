use Rattle.std.proofs.Common.{◌≡◌, List, ℕ, Option, Some, None, ap, ◌∙◌, rules}
use Rattle.std.specs.Prelude.{position}
use Rattle.txn_names.specs.Path.{label_eq}
use Rattle.serial_spec.specs.Interleaving.{Session}
use Rattle.session_text.specs.Growing.{place_of}
use Rattle.session_text.proofs.Places.{place_is}
use Rattle.session_text.proofs.sessions.Sessions.place.Goals as goal

pub returns-in_err-place : goal.returns-in_err-place
returns-in_err-place c =
    let here : ◌≡◌ {A = Option ℕ} None (position (λ s. label_eq c.args.label.now s.label) c.self.inside.sessions.items) = search rules in
    let none : c.from_residual.result ≡ None = search rules in
    none ∙ here ∙ place_is c.args.label.now c.self.inside.sessions.items ∙ ap (λ (ss : List Session). place_of c.args.label.now ss) c.self.view_is

pub returns : goal.returns
returns c =
    let here : Some c.in_ok-place.place ≡ position (λ s. label_eq c.args.label.now s.label) c.self.inside.sessions.items = search rules in
    here ∙ place_is c.args.label.now c.self.inside.sessions.items ∙ ap (λ (ss : List Session). place_of c.args.label.now ss) c.self.view_is
