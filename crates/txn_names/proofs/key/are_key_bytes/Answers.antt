use Rattle.std.proofs.Common.{◌∙◌, ℕ, List, ap, sym}
use Rattle.std.specs.List.{list_all}
use Rattle.txn_names.specs.Text.{is_key_byte}
use Rattle.txn_names.proofs.KeyBytes.{rest_decides, word_decides}
use Rattle.txn_names.proofs.key.are_key_bytes.Goals as goal

pub returns-then-not-is_key_word : goal.returns-then-not-is_key_word
returns-then-not-is_key_word c =
    let xs : List ℕ = c.loop-word.rest.now in
    let cases = c.in-Some.ensures.cases in
    word_decides is_key_byte xs (sym c.if-not-is_key_word.true ∙ c.is_key_word.ensures ∙ ap (list_all is_key_byte) cases.0) ∙ c.loop-word.invariant

pub loop-word-preserved : goal.loop-word-preserved
loop-word-preserved c =
    let xs : List ℕ = c.loop-word.rest.now in
    let cases = c.in-Some.ensures.cases in
    ap (list_all is_key_byte) cases.1
    ∙ rest_decides is_key_byte xs (sym c.if-not-is_key_word.false ∙ c.is_key_word.ensures ∙ ap (list_all is_key_byte) cases.0)
    ∙ c.loop-word.invariant

pub returns : goal.returns
returns c = c.are_few_key_bytes.ensures ∙ c.loop-word.invariant
