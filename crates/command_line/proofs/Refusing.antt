-- Which words ask for a task, for none, or for no replay, by what was read of them.
use Rattle.std.proofs.Common.{◌≡◌, ◌∙◌, List, Option, Some, None, Bor, codes, inl, inr, refl, sym, ap, subst}
use Rattle.std.specs.Option.{option_copied}
use Rattle.std.specs.Prelude.{IsSomeAnd, map}
use Rattle.clap.specs.Words.{HasKind, IsAmong, Kinds, Row, Text, fault_of, kind_of, subcommand_of}
use Rattle.clap.specs.declared.error.Error.{Error}
use Rattle.clap.specs.declared.error.kind.ErrorKind.TheVariants.{OutOfMemory}
use Rattle.command_line.proofs.Texts.{differ}
use Rattle.command_line.specs.CommandLine.{tx_app}
use Rattle.command_line.specs.Tasks.{AskNothing, Asks, IsRead, IsTaskOf, name_of, name_of_solo}
use Rattle.command_line.specs.declared.task.Solo.{Solo}
use Rattle.command_line.specs.declared.task.Solo.TheVariants.{Check, Draw, Live, Replay, Rows, Show}
use Rattle.command_line.specs.declared.task.Task.{Task}
use Rattle.command_line.specs.declared.task.Task.TheVariants.{Alone, Run}

-- the texts of words that are lent
abbrev texts_of : List (Bor Text) → List Text
texts_of words = map (λ (w : Bor Text). w.now) words

-- of a list of words and of the same words behind another name the same is read
same_texts : (shown all : List (Bor Text)) (words : List Text) → shown ≡ all → texts_of all ≡ words → texts_of shown ≡ words
same_texts shown all words same texts = ap texts_of same ∙ texts

read_of : (shown all : List (Bor Text)) (words : List Text) (found told : Option Task) → shown ≡ all → texts_of all ≡ words
    → found ≡ told → IsRead (texts_of shown) found → IsRead words told
read_of shown all words found told same texts is read =
    subst (IsRead words) is (subst (λ (ws : List Text). IsRead ws found) (same_texts shown all words same texts) read)

pub asked : (shown all : List (Bor Text)) (words : List Text) (found : Option Task) (task : Task) → shown ≡ all
    → texts_of all ≡ words → found ≡ Some task → IsRead (texts_of shown) found → Asks words task
asked shown all words found task same texts is read = read_of shown all words found (Some task) same texts is read

pub unasked : (shown all : List (Bor Text)) (words : List Text) (found : Option Task) → shown ≡ all
    → texts_of all ≡ words → found ≡ None → IsRead (texts_of shown) found → AskNothing words
unasked shown all words found same texts is read = read_of shown all words found None same texts is read

among : (words : List Text) (error : Error) → HasKind (fault_of tx_app words) error → (kind_of error ≡ OutOfMemory → ⊥)
    → IsAmong (kind_of error) (fault_of tx_app words)
among words error (inl is) other = absurd (other is)
among words error (inr kind) other = kind

pub refused : (shown all : List (Bor Text)) (words : List Text) (error : Error) → shown ≡ all → texts_of all ≡ words
    → HasKind (fault_of tx_app (texts_of shown)) error → (kind_of error ≡ OutOfMemory → ⊥) → AskNothing words
refused shown all words error same texts has other =
    let kinds : HasKind (fault_of tx_app words) error = subst (λ (ws : List Text). HasKind (fault_of tx_app ws) error)
    (same_texts shown all words same texts) has in
    λ task asks. subst (λ (ks : Kinds). IsAmong (kind_of error) ks) asks.faultless (among words error kinds other)

-- two tasks that the same words ask for are asked for by one subcommand
same_name : (sub : Option (Text × List Row)) (a b : Task) → IsSomeAnd sub (λ s. IsTaskOf s.0 s.1 a)
    → IsSomeAnd sub (λ s. IsTaskOf s.0 s.1 b) → name_of a ≡ name_of b
same_name None a b x y = absurd x
same_name (Some s) a b x y = sym x.0 ∙ y.0

one_name : (words : List Text) (a b : Task) → Asks words a → Asks words b → name_of a ≡ name_of b
one_name words a b x y = same_name (subcommand_of tx_app words) a b x.named y.named

-- a run is asked for by another subcommand than a replay
pub run_asked : (words : List Text) (file : Bor Text) (workers database : Option (Bor Text))
    → Asks words (Run file workers database)
    → (other : Bor Text) (list path : Option (Bor Text)) → Asks words (Alone (Replay other list path)) → ⊥
run_asked words file workers database asks other list path replays =
    differ (codes "run") (codes "replay") refl
    (one_name words (Run file workers database) (Alone (Replay other list path)) asks replays)

-- what one thread does is no replay
abbrev IsNoReplay : Solo → Type 0
IsNoReplay solo = (file : Bor Text) (list database : Option (Bor Text)) → solo ≡ Replay file list database → ⊥

other_name : (solo : Solo) → IsNoReplay solo → name_of_solo solo ≡ codes "replay" → ⊥
other_name (Replay file list database) is = λ _. is file list database refl
other_name (Live database) is = differ (codes "live") (codes "replay") refl
other_name (Check file) is = differ (codes "check") (codes "replay") refl
other_name (Rows path) is = differ (codes "rows") (codes "replay") refl
other_name (Show file jobs undone strict) is = differ (codes "show") (codes "replay") refl
other_name (Draw file) is = differ (codes "draw") (codes "replay") refl

-- where it is something else that is asked for, no replay is
pub other_asked : (words : List Text) (solo : Solo) → Asks words (Alone solo) → IsNoReplay solo
    → (file : Bor Text) (list database : Option (Bor Text)) → Asks words (Alone (Replay file list database)) → ⊥
other_asked words solo asks other file list database replays =
    other_name solo other (one_name words (Alone solo) (Alone (Replay file list database)) asks replays)

-- ---- runs by workers

-- two runs that the same words ask for are by one word
same_count : (sub : Option (Text × List Row)) (file other : Bor Text) (workers database count path : Option (Bor Text))
    → IsSomeAnd sub (λ s. IsTaskOf s.0 s.1 (Run file workers database)) → IsSomeAnd sub (λ s. IsTaskOf s.0 s.1 (Run other count path))
    → option_copied count ≡ option_copied workers
same_count None file other workers database count path x y = absurd x
same_count (Some s) file other workers database count path x y = sym y.1.1 ∙ x.1.1

pub one_count : (words : List Text) (file : Bor Text) (workers database : Option (Bor Text)) → Asks words (Run file workers database)
    → (other : Bor Text) (count path : Option (Bor Text)) → Asks words (Run other count path)
    → option_copied count ≡ option_copied workers
one_count words file workers database x other count path y =
    same_count (subcommand_of tx_app words) file other workers database count path x.named y.named

run_name : (solo : Solo) → name_of_solo solo ≡ codes "run" → ⊥
run_name (Replay file list database) = differ (codes "replay") (codes "run") refl
run_name (Live database) = differ (codes "live") (codes "run") refl
run_name (Check file) = differ (codes "check") (codes "run") refl
run_name (Rows path) = differ (codes "rows") (codes "run") refl
run_name (Show file jobs undone strict) = differ (codes "show") (codes "run") refl
run_name (Draw file) = differ (codes "draw") (codes "run") refl

-- where one thread is to do something, no run by workers is asked for
pub alone_asked : (words : List Text) (solo : Solo) → Asks words (Alone solo)
    → (file : Bor Text) (workers database : Option (Bor Text)) → Asks words (Run file workers database) → ⊥
alone_asked words solo asks file workers database runs =
    run_name solo (one_name words (Alone solo) (Run file workers database) asks runs)
