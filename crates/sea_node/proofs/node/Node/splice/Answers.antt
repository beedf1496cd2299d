use Rattle.std.proofs.Common.{◌≡◌, ℕ, List, sym, ap, subst, ◌∙◌, arith}
use Rattle.std.specs.Option.{option_copied}
use Rattle.sea_node.specs.Entries.{size, entries_before, entries_at}
use Rattle.sea_node.specs.Lookup.{Passes}
use Rattle.sea_node.proofs.BlockEdits.{before_fits, gone_fits, gone_small, edit_is}
use Rattle.sea_node.proofs.node.Node.splice.Goals as goal

pub overflow_sub-result-2 : goal.overflow_sub-result-2
overflow_sub-result-2 c =
    let block = c.args.block.now in
    let key = c.args.key.now in
    let some = rw c.in-Some.is at c.of.ensures.some in
    let es = some.0 in
    let passed = c.in-Some.passed in
    let told : Passes c.bytes.result.now c.bytes-2.result.now es passed = subst (λ (k : List ℕ). Passes c.bytes.result.now k es passed) (sym c.bytes-2.ensures.bytes) (subst (λ (b : List ℕ). Passes b key es passed) (sym c.bytes.ensures.bytes) some.2) in
    let rising = some.1.node.rising in
    let before : c.place_of-place.result.before ≡ size (entries_before key es) = c.place_of-place.ensures.before es rising told ∙ ap (λ (k : List ℕ). size (entries_before k es)) c.bytes-2.ensures.bytes in
    let gone : c.place_of-place.result.size ≡ size (entries_at key es) = c.place_of-place.ensures.size es rising told ∙ ap (λ (k : List ℕ). size (entries_at k es)) c.bytes-2.ensures.bytes in
    gone_fits block key c.in-Some.level es passed some.1 some.2 c.place_of-place.result.before c.place_of-place.result.size before gone

pub overflow_add-result-2 : goal.overflow_add-result-2
overflow_add-result-2 c =
    let block = c.args.block.now in
    let key = c.args.key.now in
    let some = rw c.in-Some.is at c.of.ensures.some in
    let es = some.0 in
    let passed = c.in-Some.passed in
    let told : Passes c.bytes.result.now c.bytes-2.result.now es passed = subst (λ (k : List ℕ). Passes c.bytes.result.now k es passed) (sym c.bytes-2.ensures.bytes) (subst (λ (b : List ℕ). Passes b key es passed) (sym c.bytes.ensures.bytes) some.2) in
    let rising = some.1.node.rising in
    let before : c.place_of-place.result.before ≡ size (entries_before key es) = c.place_of-place.ensures.before es rising told ∙ ap (λ (k : List ℕ). size (entries_before k es)) c.bytes-2.ensures.bytes in
    let gone : c.place_of-place.result.size ≡ size (entries_at key es) = c.place_of-place.ensures.size es rising told ∙ ap (λ (k : List ℕ). size (entries_at k es)) c.bytes-2.ensures.bytes in
    omega (arith, before_fits block key c.in-Some.level es passed some.1 some.2 c.place_of-place.result.before c.place_of-place.result.size before gone)

pub overflow_cast-result : goal.overflow_cast-result
overflow_cast-result c =
    let block = c.args.block.now in
    let key = c.args.key.now in
    let some = rw c.in-Some.is at c.of.ensures.some in
    let es = some.0 in
    let passed = c.in-Some.passed in
    let told : Passes c.bytes.result.now c.bytes-2.result.now es passed = subst (λ (k : List ℕ). Passes c.bytes.result.now k es passed) (sym c.bytes-2.ensures.bytes) (subst (λ (b : List ℕ). Passes b key es passed) (sym c.bytes.ensures.bytes) some.2) in
    let rising = some.1.node.rising in
    let before : c.place_of-place.result.before ≡ size (entries_before key es) = c.place_of-place.ensures.before es rising told ∙ ap (λ (k : List ℕ). size (entries_before k es)) c.bytes-2.ensures.bytes in
    let gone : c.place_of-place.result.size ≡ size (entries_at key es) = c.place_of-place.ensures.size es rising told ∙ ap (λ (k : List ℕ). size (entries_at k es)) c.bytes-2.ensures.bytes in
    omega (arith, before_fits block key c.in-Some.level es passed some.1 some.2 c.place_of-place.result.before c.place_of-place.result.size before gone)

pub overflow_cast-result-2 : goal.overflow_cast-result-2
overflow_cast-result-2 c =
    let block = c.args.block.now in
    let key = c.args.key.now in
    let some = rw c.in-Some.is at c.of.ensures.some in
    let es = some.0 in
    let passed = c.in-Some.passed in
    let told : Passes c.bytes.result.now c.bytes-2.result.now es passed = subst (λ (k : List ℕ). Passes c.bytes.result.now k es passed) (sym c.bytes-2.ensures.bytes) (subst (λ (b : List ℕ). Passes b key es passed) (sym c.bytes.ensures.bytes) some.2) in
    let rising = some.1.node.rising in
    let before : c.place_of-place.result.before ≡ size (entries_before key es) = c.place_of-place.ensures.before es rising told ∙ ap (λ (k : List ℕ). size (entries_before k es)) c.bytes-2.ensures.bytes in
    let gone : c.place_of-place.result.size ≡ size (entries_at key es) = c.place_of-place.ensures.size es rising told ∙ ap (λ (k : List ℕ). size (entries_at k es)) c.bytes-2.ensures.bytes in
    omega (arith, gone_small block key c.in-Some.level es passed some.1 some.2 c.place_of-place.result.before c.place_of-place.result.size before gone)

pub returns-clause-some : goal.returns-clause-some
returns-clause-some c =
    let block = c.args.block.now in
    let key = c.args.key.now in
    let some = rw c.in-Some.is at c.of.ensures.some in
    let es = some.0 in
    let passed = c.in-Some.passed in
    let told : Passes c.bytes.result.now c.bytes-2.result.now es passed = subst (λ (k : List ℕ). Passes c.bytes.result.now k es passed) (sym c.bytes-2.ensures.bytes) (subst (λ (b : List ℕ). Passes b key es passed) (sym c.bytes.ensures.bytes) some.2) in
    let rising = some.1.node.rising in
    let before : c.place_of-place.result.before ≡ size (entries_before key es) = c.place_of-place.ensures.before es rising told ∙ ap (λ (k : List ℕ). size (entries_before k es)) c.bytes-2.ensures.bytes in
    let gone : c.place_of-place.result.size ≡ size (entries_at key es) = c.place_of-place.ensures.size es rising told ∙ ap (λ (k : List ℕ). size (entries_at k es)) c.bytes-2.ensures.bytes in
    (es, some.1, edit_is block key c.in-Some.level es passed some.1 some.2 c.place_of-place.result.before c.place_of-place.result.size before gone (option_copied c.args.value) c.in_ok-put.put c.len.result c.in_ok-put.ensures c.len.ensures.value)
