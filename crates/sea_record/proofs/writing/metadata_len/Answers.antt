use Rattle.std.proofs.Common.{◌≡◌, ◌+◌, ◌*◌, ◌≤◌, inl, inr, List, length, take, arith, ap, sym, refl, ◌∙◌}
use Rattle.std.specs.List.{flat_map}
use Rattle.std.proofs.lemmas.Bool.{false≢true}
use Rattle.std.proofs.lemmas.List.{take_all}
use Rattle.sea_record.specs.Entries.{change_bytes}
use Rattle.sea_record.specs.Record.{listed}
use Rattle.sea_record.specs.declared.record.Body.{Body}
use Rattle.sea_record.specs.declared.record.Change.{Change}
use Rattle.sea_record.proofs.MetadataLengths.{metadata_plain, length-metadata, front_bytes, more_bytes}
use Rattle.sea_record.proofs.Metadatas.{none_or_some}
use Rattle.sea_record.proofs.writing.metadata_len.Goals as goal

pub returns-then-lists_nothing : goal.returns-then-lists_nothing
returns-then-lists_nothing c =
    c.len.ensures.value ∙ sym (ap length (metadata_plain c.args.body.now (c.if-lists_nothing.ensures.0 refl)))

some : (body : Body) → (listed body ≡ 0 → ⊥) → 1 ≤ listed body
some body not =
    elim (none_or_some (listed body)) [ inl none ↦ absurd (not none) | inr more ↦ more ]

pub overflow_add-len-in-loop-change-2 : goal.overflow_add-len-in-loop-change-2
overflow_add-len-in-loop-change-2 c =
    let body = c.args.body.now in
    let i = c.loop-change.change-index in
    let items = c.items-change-items.result.now in
    let so_far : c.loop-change.len ≡ 12 + 24 * length body.placed + 8 * length body.dropped + length (flat_map change_bytes (take i items)) = c.loop-change.invariant in
    let all : length (flat_map change_bytes items) ≡ length (flat_map change_bytes body.changes) = ap (λ (xs : List Change). length (flat_map change_bytes xs)) c.items-change-items.ensures in
    omega (arith, so_far, all, more_bytes items i c.change-item.result c.loop-change-test.true c.change-item.is, front_bytes (i + 1) items, length-metadata body (some body (λ e. false≢true (c.if-lists_nothing.ensures.1 e))), c.requires, c.len-in-loop-change.ensures.value)

pub loop-change-preserved : goal.loop-change-preserved
loop-change-preserved c =
    let body = c.args.body.now in
    let i = c.loop-change.change-index in
    let items = c.items-change-items.result.now in
    let so_far : c.loop-change.len ≡ 12 + 24 * length body.placed + 8 * length body.dropped + length (flat_map change_bytes (take i items)) = c.loop-change.invariant in
    let further : c.loop-change.len + (14 + c.len-in-loop-change.result) ≡ 12 + 24 * length body.placed + 8 * length body.dropped + length (flat_map change_bytes (take (i + 1) items)) =
    omega (arith, so_far, more_bytes items i c.change-item.result c.loop-change-test.true c.change-item.is, c.len-in-loop-change.ensures.value) in
    further

pub returns : goal.returns
returns c =
    let body = c.args.body.now in
    let i = c.loop-change.change-index in
    let items = c.items-change-items.result.now in
    let so_far : c.loop-change.len ≡ 12 + 24 * length body.placed + 8 * length body.dropped + length (flat_map change_bytes (take i items)) = c.loop-change.invariant in
    let all : length (flat_map change_bytes (take i items)) ≡ length (flat_map change_bytes body.changes) = ap (λ (xs : List Change). length (flat_map change_bytes xs)) (take_all i items c.loop-change-test.false ∙ c.items-change-items.ensures) in
    omega (arith, so_far, all, length-metadata body (some body (λ e. false≢true (c.if-lists_nothing.ensures.1 e))))
