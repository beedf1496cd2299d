use Rattle.std.proofs.Common.{◌≡◌, ◌≤◌, ℕ, List, length, inl, inr, subst, arith, sym, ap, refl, ◌∙◌}
use Rattle.std.proofs.lemmas.Bool.{false≢true}
use Rattle.sea_base.specs.declared.place.Laddr.{Laddr}
use Rattle.sea_record.specs.declared.entry.Mark.{Mark}
use Rattle.sea_record.specs.declared.lists.Metadata.{Metadata}
use Rattle.sea_record.specs.declared.record.Change.{Change}
use Rattle.sea_record.specs.Entries.{address_bytes, change_bytes}
use Rattle.sea_record.specs.EntryLaws.{IsMark, IsAddress, IsListed}
use Rattle.sea_record.specs.Parts.{BeginsWithList, spelled_mark, listed_in}
use Rattle.sea_record.proofs.Metadatas.{plain_read, no_first, no_second, no_third, lists_read, lists_there, same_lists, none_or_some, no_length, some_length}
use Rattle.sea_record.proofs.lists.read_metadata.Goals as goal
use Rattle.sea_record.proofs.lists.read_metadata.Goals.{then-is_plain-via-then-is_plain, then-is_plain-via-else-is_plain+then-is_empty, then-not-is_empty-via-then-not-is_empty, then-not-is_empty-via-else-not-is_empty+then-lists_nothing}

pub returns-then-is_plain : goal.returns-then-is_plain
returns-then-is_plain c =
    plain_read c.args.kind c.args.bytes.now (record { marks = c.new.result; dropped = c.new-then-is_plain.result; changes = c.new-then-is_plain-2.result; plain = c.in_ok-new.field-0 })
    c.new.ensures c.new-then-is_plain.ensures c.new-then-is_plain-2.ensures c.in_ok-new.ensures
    (λ other. elim c.then-is_plain.branch [
      | then-is_plain-via-then-is_plain w ↦ absurd (other (c.is_plain.ensures.0 w.if-is_plain.true))
      | then-is_plain-via-else-is_plain+then-is_empty w ↦ no_length (length c.args.bytes.now) (sym w.if-is_empty.true ∙ w.is_empty.ensures)
    ])

pub returns-in_default : goal.returns-in_default
returns-in_default c =
    let none = rw c.in_default.is at c.in_ok-marks.ensures in
    no_first c.args.kind c.args.bytes.now (λ e. false≢true (c.if-is_plain.ensures.1 e)) (some_length (length c.args.bytes.now) c.if-is_empty.ensures) none

pub returns-in_default-2 : goal.returns-in_default-2
returns-in_default-2 c =
    let f1 = rw c.in-Some.is at c.in_ok-marks.ensures in
    let none = rw c.in_default-2.is at c.in_ok-dropped.ensures in
    no_second c.args.kind c.args.bytes.now c.in-Some.marks c.in-Some.rest.now (λ e. false≢true (c.if-is_plain.ensures.1 e)) (some_length (length c.args.bytes.now) c.if-is_empty.ensures) f1 none

pub returns-in_default-3 : goal.returns-in_default-3
returns-in_default-3 c =
    let f1 = rw c.in-Some.is at c.in_ok-marks.ensures in
    let f2 = rw c.in-Some-2.is at c.in_ok-dropped.ensures in
    let none = rw c.in_default-3.is at c.in_ok-changes.ensures in
    no_third c.args.kind c.args.bytes.now c.in-Some.marks c.in-Some.rest.now c.in-Some-2.dropped c.in-Some-2.rest.now (λ e. false≢true (c.if-is_plain.ensures.1 e)) (some_length (length c.args.bytes.now) c.if-is_empty.ensures) f1 f2 none

pub returns-then-not-is_empty : goal.returns-then-not-is_empty
returns-then-not-is_empty c = λ m is.
    let f1 = rw c.in-Some.is at c.in_ok-marks.ensures in
    let f2 = rw c.in-Some-2.is at c.in_ok-dropped.ensures in
    let f3 = rw c.in-Some-3.is at c.in_ok-changes.ensures in
    let there = lists_there c.args.kind c.args.bytes.now m (λ e. false≢true (c.if-is_plain.ensures.1 e)) (some_length (length c.args.bytes.now) c.if-is_empty.ensures) is in
    let same = same_lists c.args.bytes.now m c.args.kind c.in-Some.marks c.in-Some-2.dropped c.in-Some-3.changes c.in-Some.rest.now c.in-Some-2.rest.now c.in-Some-3.rest.now is there.1 f1 f2 f3 in
    let marks : length c.in-Some.marks ≡ length m.marks = ap (λ (xs : List Mark). length xs) same.marks in
    let dropped : length c.in-Some-2.dropped ≡ length m.dropped = ap (λ (xs : List Laddr). length xs) same.dropped in
    let changes : length c.in-Some-3.changes ≡ length m.changes = ap (λ (xs : List Change). length xs) same.changes in
    let end : length c.in-Some-3.rest.now ≡ 0 = ap (λ (xs : List ℕ). length xs) same.rest in
    elim c.then-not-is_empty.branch [
      | then-not-is_empty-via-then-not-is_empty w ↦ omega (arith, end, some_length (length c.in-Some-3.rest.now) (sym w.if-not-is_empty.true ∙ c.is_empty-2.ensures))
      | then-not-is_empty-via-else-not-is_empty+then-lists_nothing w ↦ let none = w.if-lists_nothing.ensures.0 refl in omega (arith, none, there.0, marks, dropped, changes, ap length c.marks.view_is, ap length c.dropped.view_is)
    ]

pub returns : goal.returns
returns c =
    let bytes = c.args.bytes.now in
    let m : Metadata = record { marks = c.marks.inside.items.items; dropped = c.dropped.inside.items.items; changes = c.in-Some-3.changes; plain = c.in_ok-new-2.field-0 } in
    let f1 : BeginsWithList IsMark spelled_mark bytes m.marks c.in-Some.rest.now = subst (λ (xs : List Mark). BeginsWithList IsMark spelled_mark bytes xs c.in-Some.rest.now) (sym c.marks.view_is) (rw c.in-Some.is at c.in_ok-marks.ensures) in
    let f2 : BeginsWithList IsAddress address_bytes c.in-Some.rest.now m.dropped c.in-Some-2.rest.now = subst (λ (xs : List Laddr). BeginsWithList IsAddress address_bytes c.in-Some.rest.now xs c.in-Some-2.rest.now) (sym c.dropped.view_is) (rw c.in-Some-2.is at c.in_ok-dropped.ensures) in
    let f3 : BeginsWithList IsListed change_bytes c.in-Some-2.rest.now m.changes c.in-Some-3.rest.now = rw c.in-Some-3.is at c.in_ok-changes.ensures in
    let end = no_length (length c.in-Some-3.rest.now) (sym c.if-not-is_empty.false ∙ c.is_empty-2.ensures) in
    let some : 1 ≤ listed_in m = elim (none_or_some (listed_in m)) [
      | inl none ↦ absurd (false≢true (c.if-lists_nothing.ensures.1 none))
      | inr more ↦ more
    ] in
    lists_read c.args.kind bytes m c.in-Some.rest.now c.in-Some-2.rest.now c.in-Some-3.rest.now (λ e. false≢true (c.if-is_plain.ensures.1 e)) f1 f2 f3 end c.in_ok-new-2.ensures some
