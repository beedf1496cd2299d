use Rattle.std.proofs.Common.{◌≡◌, ℕ, suc, ◌-◌, List, [], ◌++◌, length, drop, get_or, ap, ◌∙◌, add-one, arith, sym}
use Rattle.std.specs.Prelude.{map}
use Rattle.std.specs.Borrow.{Bor}
use Rattle.std.proofs.lemmas.Result.{err_from_is_err_and}
use Rattle.sea_script.specs.Argument.{argument_text, kind_of, kinds}
use Rattle.sea_script.specs.Reading.{seen}
use Rattle.sea_script.specs.Table.{kinds_for}
use Rattle.sea_script.proofs.Arguments.{all_read, count_is, good_more, kind_is, kinds_at, mapped_more, read_fails, seen_at, seen_length}
use Rattle.sea_script.proofs.argument.Arguments.read.Goals as goal

pub returns-in_err-read_word : goal.returns-in_err-read_word
returns-in_err-read_word c =
    let called = c.args.row.1 in
    let words = c.args.words.now in
    let index = c.loop-index.index in
    let kind = c.kind_at-kind.result in
    let read = c.loop-index.arguments.items in
    let all = kinds_for called (length (seen words)) in
    let d : Bor (List ℕ) = record { ref_ptr = (0, 0); now = [] } in
    let may = c.may_follow.ensures.0 c.if-not-may_follow.false in
    let counted = count_is c.args.row.2.now c.args.row.3 called words c.requires.1 c.requires.2 c.if-words-first.false may in
    let here = kind_is c.args.row.2.now c.args.row.3 called words index kind c.requires.1 c.requires.2 (c.kind_at-kind.ensures (length words - length c.args.row.2.now) may (omega arith)) in
    let p = err_from_is_err_and c.from_residual-in_err-read_word.result c.from_residual-in_err-read_word.ensures.1 in
    rw (p.1, p.2)
    (read_fails called (seen words) read kind (drop (suc index) all) (get_or words index d).now (drop (suc index) (seen words)) c.in_err-read_word.field-0.0 counted c.loop-index.invariant.good (c.loop-index.invariant.kinds ∙ ap (λ xs. kinds read ++ xs) (kinds_at all index kind here)) (c.loop-index.invariant.words ∙ ap (λ xs. map argument_text read ++ xs) (seen_at words index d c.loop-index-test.true)) c.in_err-read_word.ensures)

pub loop-index-preserved : goal.loop-index-preserved
loop-index-preserved c =
    let called = c.args.row.1 in
    let words = c.args.words.now in
    let index = c.loop-index.index in
    let kind = c.kind_at-kind.result in
    let read = c.loop-index.arguments.items in
    let all = kinds_for called (length (seen words)) in
    let d : Bor (List ℕ) = record { ref_ptr = (0, 0); now = [] } in
    let a = c.in_ok-read_word.field-0 in
    let says = c.in_ok-read_word.ensures in
    let may = c.may_follow.ensures.0 c.if-not-may_follow.false in
    let here = kind_is c.args.row.2.now c.args.row.3 called words index kind c.requires.1 c.requires.2 (c.kind_at-kind.ensures (length words - length c.args.row.2.now) may (omega arith)) in
    rw (c.in_ok-push.ensures.items, add-one)
    (record {
      good = good_more read a c.loop-index.invariant.good says.0;
      kinds = c.loop-index.invariant.kinds ∙ ap (λ xs. kinds read ++ xs) (kinds_at all index kind here) ∙ mapped_more kind_of read a kind (drop (suc index) all) says.1;
      words = c.loop-index.invariant.words ∙ ap (λ xs. map argument_text read ++ xs) (seen_at words index d c.loop-index-test.true) ∙ mapped_more argument_text read a (get_or words index d).now (drop (suc index) (seen words)) (sym says.2);
    })

pub returns : goal.returns
returns c =
    let called = c.args.row.1 in
    let words = c.args.words.now in
    let may = c.may_follow.ensures.0 c.if-not-may_follow.false in
    let counted = count_is c.args.row.2.now c.args.row.3 called words c.requires.1 c.requires.2 c.if-words-first.false may in
    let index : c.loop-index.index ≡ length (seen words) = omega (arith, seen_length words) in
    rw c.into_iter.ensures.rest (all_read called (seen words) c.loop-index.arguments.items c.loop-index.index counted c.loop-index.invariant.good index c.loop-index.invariant.kinds c.loop-index.invariant.words)
