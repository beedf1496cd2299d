use Rattle.std.proofs.Common.{◌≡◌, ◌≤◌, ◌++◌, ℕ, List, ap, sym, refl, inl, inr, ◌∙◌}
use Rattle.std.proofs.lemmas.Bool.{false≢true}
use Rattle.sea_base.specs.declared.place.Laddr.{Laddr}
use Rattle.sea_record.specs.Entries.{mark_bytes, address_bytes, change_bytes, counted}
use Rattle.sea_record.specs.Record.{listed}
use Rattle.sea_record.specs.declared.record.Body.{Body}
use Rattle.sea_record.specs.declared.record.Change.{Change}
use Rattle.sea_record.specs.declared.record.Placed.{Placed}
use Rattle.sea_record.proofs.Encoding.{metadata_pushed}
use Rattle.sea_record.proofs.MetadataLengths.{metadata_plain}
use Rattle.sea_record.proofs.Metadatas.{none_or_some}
use Rattle.sea_record.proofs.writing.push_metadata.Goals as goal

pub returns-then-lists_nothing : goal.returns-then-lists_nothing
returns-then-lists_nothing c =
    c.in_ok-extend_from_slice.ensures.items ∙ ap (λ (b : List ℕ). c.args.bytes.now.items ++ b) (c.bytes.ensures ∙ sym (metadata_plain c.args.body.now (c.if-lists_nothing.ensures.0 refl)))

pub push_list-requires-clause-pushable : goal.push_list-requires-clause-pushable
push_list-requires-clause-pushable c = λ k d within. tt

some : (body : Body) → (listed body ≡ 0 → ⊥) → 1 ≤ listed body
some body not =
    elim (none_or_some (listed body)) [ inl none ↦ absurd (not none) | inr more ↦ more ]

pub returns : goal.returns
returns c =
    let body = c.args.body.now in
    metadata_pushed body c.args.bytes.now.items c.push_marks.new.bytes.items c.push_list.new.bytes.items c.push_list-2.new.bytes.items (some body (λ e. false≢true (c.if-lists_nothing.ensures.1 e)))
    (c.in_ok-push_marks.ensures ∙ ap (λ (xs : List Placed). c.args.bytes.now.items ++ counted (λ (p : Placed). mark_bytes p.at.0 p.version.0 p.sum.0) xs) c.items.ensures)
    (c.in_ok-push_list.ensures ∙ ap (λ (xs : List Laddr). c.push_marks.new.bytes.items ++ counted address_bytes xs) c.items-2.ensures)
    (c.in_ok-push_list-2.ensures ∙ ap (λ (xs : List Change). c.push_list.new.bytes.items ++ counted change_bytes xs) c.items-3.ensures)
