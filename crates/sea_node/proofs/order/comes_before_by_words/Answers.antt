use Rattle.std.proofs.Common.{◌≡◌, ℕ, ◌-◌, List, length, take, drop, refl, sym, ap, ◌∙◌, arith}
use Rattle.std.proofs.lemmas.List.{take_rest}
use Rattle.std.proofs.lemmas.Bool.Decides.{Decides-ltb}
use Rattle.std.specs.Ordering.{nat_cmp, is_lt, is_some_and}
use Rattle.std.specs.Cmp.Lexicographic.{lists_agrees}
use Rattle.sea_base.proofs.Words.{words_tied, words_apart, is_below}
use Rattle.sea_node.specs.Entries.{key_order}
use Rattle.sea_node.proofs.order.comes_before_by_words.Goals as goal

pub words-preserved : goal.words-preserved
words-preserved c =
    let front = c.words.front.now in
    let other = c.words.other.now in
    ap (λ (x : List ℕ). key_order x (take (length other - 8) (drop 8 other))) (take_rest front 8)
    ∙ ap (key_order (drop 8 front)) (take_rest other 8)
    ∙ words_tied c.u64_at-word.result c.u64_at-its.result front other (omega arith) (omega arith) c.u64_at-word.ensures.spelled c.u64_at-its.ensures.spelled c.if-word-its.false
    ∙ c.words.invariant

pub returns-then-word-its : goal.returns-then-word-its
returns-then-word-its c =
    let apart = words_apart c.u64_at-word.result c.u64_at-its.result c.words.front.now c.words.other.now (omega arith) (omega arith) c.u64_at-word.ensures.spelled c.u64_at-its.ensures.spelled c.if-word-its.true in
    let tells = Decides-ltb c.u64_at-word.result c.u64_at-its.result in
    (λ lt. sym c.words.invariant ∙ apart.0 (tells.0 lt), λ below. tells.1 (apart.1 (c.words.invariant ∙ below)))

pub returns : goal.returns
returns c =
    let front = c.words.front.now in
    let other = c.words.other.now in
    let told : c.lt.result ≡ is_lt (key_order front other) = c.lt.ensures ∙ ap (is_some_and is_lt) (lists_agrees {R = nat_cmp} (λ x y. refl) front other) in
    let tells = is_below (key_order front other) in
    (λ lt. sym c.words.invariant ∙ tells.0 (sym told ∙ lt), λ below. told ∙ tells.1 (c.words.invariant ∙ below))
