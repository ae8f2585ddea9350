-- Which task the matches of a subcommand ask for, or that they ask for none.
use Rattle.std.proofs.Common.{◌≡◌, ◌∙◌, List, [], Option, Some, None, codes, refl, sym, ap}
use Rattle.std.specs.Prelude.{if◌then◌else◌, option_map, unwrap_or, Box}
use Rattle.std.specs.Borrow.{Bor}
use Rattle.std.specs.Box.{box_value}
use Rattle.std.specs.Str.{bytes_eq}
use Rattle.clap.specs.Words.{Row, Text, first_of, rows_of, found_of, subcommand_rows}
use Rattle.clap.specs.declared.parser.matches.SubCommand.{SubCommand}
use Rattle.clap.specs.declared.parser.matches.ArgMatches.TheViews.{out-SubCommand}
use Rattle.command_line.proofs.Texts.{differ, some_none}
use Rattle.command_line.specs.Tasks.{FitsSolo, IsSoloOf, IsTaskOf, IsValueOf, name_of_solo}
use Rattle.command_line.specs.declared.task.Solo.{Solo}
use Rattle.command_line.specs.declared.task.Solo.TheVariants.{Check, Draw, Live, Replay, Rows, Show}
use Rattle.command_line.specs.declared.task.Task.{Task}
use Rattle.command_line.specs.declared.task.Task.TheVariants.{Alone, Run}

-- ---- a value that is wanted and missing

-- the argument that has to be there
abbrev wanted : Solo → Option Text
wanted (Replay file schedule database) = Some (codes "file")
wanted (Live database) = None
wanted (Check file) = Some (codes "report")
wanted (Rows path) = Some (codes "path")
wanted (Show file jobs undone strict) = Some (codes "report")
wanted (Draw file) = Some (codes "report")

-- the same, by the name of the subcommand
abbrev pub wanted_at : Text → Option Text
wanted_at name = if bytes_eq name (codes "replay") then Some (codes "file")
    else (if bytes_eq name (codes "check") then Some (codes "report")
    else (if bytes_eq name (codes "rows") then Some (codes "path")
    else (if bytes_eq name (codes "show") then Some (codes "report")
    else (if bytes_eq name (codes "draw") then Some (codes "report") else None))))

wanted_by_name : (solo : Solo) → wanted solo ≡ wanted_at (name_of_solo solo)
wanted_by_name (Replay file schedule database) = refl
wanted_by_name (Live database) = refl
wanted_by_name (Check file) = refl
wanted_by_name (Rows path) = refl
wanted_by_name (Show file jobs undone strict) = refl
wanted_by_name (Draw file) = refl

has_value : (rows : List Row) (id other : Text) (value : Bor Text) → Some id ≡ Some other
    → IsValueOf id rows value → first_of other rows ≡ None → ⊥
has_value rows id other value same has none =
    let is : id ≡ other = ap (λ (o : Option Text). unwrap_or o []) same in
    some_none value.now (sym has ∙ ap (λ (t : Text). first_of t rows) is ∙ none)

has_wanted : (rows : List Row) (solo : Solo) (id : Text) → wanted solo ≡ Some id → FitsSolo rows solo
    → first_of id rows ≡ None → ⊥
has_wanted rows (Replay file schedule database) id is fits none = has_value rows _ id file is fits.0 none
has_wanted rows (Live database) id is fits none = some_none id (sym is)
has_wanted rows (Check file) id is fits none = has_value rows _ id file is fits none
has_wanted rows (Rows path) id is fits none = has_value rows _ id path is fits none
has_wanted rows (Show file jobs undone strict) id is fits none = has_value rows _ id file is fits.0 none
has_wanted rows (Draw file) id is fits none = has_value rows _ id file is fits none

-- the value that the subcommand wants is missing
pub lacks_value : (name : Text) (rows : List Row) (id : Text) → wanted_at name ≡ Some id
    → first_of id rows ≡ None → (solo : Solo) → IsSoloOf name rows solo → ⊥
lacks_value name rows id wants none solo is =
    has_wanted rows solo id (wanted_by_name solo ∙ ap wanted_at (sym is.0) ∙ wants) is.1 none

-- no subcommand has this name
pub has_no_name : (name : Text) (rows : List Row) → (name ≡ codes "replay" → ⊥) → (name ≡ codes "live" → ⊥)
    → (name ≡ codes "check" → ⊥) → (name ≡ codes "rows" → ⊥) → (name ≡ codes "show" → ⊥)
    → (name ≡ codes "draw" → ⊥) → (solo : Solo) → IsSoloOf name rows solo → ⊥
has_no_name name rows a b c d e f (Replay file schedule database) is = a is.0
has_no_name name rows a b c d e f (Live database) is = b is.0
has_no_name name rows a b c d e f (Check file) is = c is.0
has_no_name name rows a b c d e f (Rows path) is = d is.0
has_no_name name rows a b c d e f (Show file jobs undone strict) is = e is.0
has_no_name name rows a b c d e f (Draw file) is = f is.0

run_is_no_solo : (solo : Solo) → codes "run" ≡ name_of_solo solo → ⊥
run_is_no_solo (Replay file schedule database) = differ (codes "run") (codes "replay") refl
run_is_no_solo (Live database) = differ (codes "run") (codes "live") refl
run_is_no_solo (Check file) = differ (codes "run") (codes "check") refl
run_is_no_solo (Rows path) = differ (codes "run") (codes "rows") refl
run_is_no_solo (Show file jobs undone strict) = differ (codes "run") (codes "show") refl
run_is_no_solo (Draw file) = differ (codes "run") (codes "draw") refl

-- a run without a file
pub run_lacks_file : (name : Text) (rows : List Row) → name ≡ codes "run" → first_of (codes "file") rows ≡ None
    → (task : Task) → IsTaskOf name rows task → ⊥
run_lacks_file name rows is none (Run file workers database) t = has_value rows (codes "file") (codes "file") file refl t.1.0 none
run_lacks_file name rows is none (Alone solo) t = run_is_no_solo solo (sym is ∙ t.0)

-- neither a run nor a task of one thread
pub is_no_task : (name : Text) (rows : List Row) → (name ≡ codes "run" → ⊥)
    → ((solo : Solo) → IsSoloOf name rows solo → ⊥) → (task : Task) → IsTaskOf name rows task → ⊥
is_no_task name rows not none (Run file workers database) t = not t.0
is_no_task name rows not none (Alone solo) t = none solo t

-- ---- the subcommand of a parse

module _ {Z : Type 0} where
  -- from its name and its rows, as two getters give them
  pub entered : (sub : Option (Box SubCommand Z)) (name : Text) (rows : List Row)
      → Some name ≡ option_map (λ b. (out-SubCommand (box_value b)).name.now) sub
      → Some rows ≡ option_map (λ p. p.1) (subcommand_rows sub) → subcommand_rows sub ≡ Some (name, rows)
  entered None name rows n r = absurd (some_none name n)
  entered (Some b) name rows n r =
      let names : (out-SubCommand (box_value b)).name.now ≡ name = ap (λ (o : Option Text). unwrap_or o []) (sym n) in
      let all : rows_of (found_of (out-SubCommand (box_value b)).matches) ≡ rows = ap (λ (o : Option (List Row)). unwrap_or o []) (sym r) in
      rw (names, all) refl

  pub not_entered : (sub : Option (Box SubCommand Z)) → None ≡ option_map (λ p. p.1) (subcommand_rows sub)
      → subcommand_rows sub ≡ None
  not_entered None r = refl
  not_entered (Some b) r = absurd (some_none _ (sym r))
