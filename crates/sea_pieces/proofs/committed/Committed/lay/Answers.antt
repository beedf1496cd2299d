use Rattle.std.proofs.Common.{◌≡◌, ℕ, List, [], Option, Some, None, Result, Ok, Err, sym, ap, ◌∙◌}
use Rattle.std.specs.Prelude.{OnOk, OnErr, option_map, unwrap_or}
use Rattle.std.specs.FinMap as map
use Rattle.sea_object.proofs.Lookups.{get_entry, insert_same, one_given, written_through}
use Rattle.sea_pieces.specs.declared.committed.Version.{Version}
use Rattle.sea_pieces.specs.Laying.{laid}
use Rattle.sea_pieces.specs.Committed.{objects_in}
use Rattle.sea_pieces.proofs.Versions.{objects_with_piece}
use Rattle.sea_pieces.proofs.committed.Committed.lay.Goals as goal

on_ok : {T E P Q : Type 0} (r : Result T E) → (P → Q) → OnOk r P → OnOk r Q
on_ok (Ok x) f p = f p
on_ok (Err e) f p = tt

on_err : {T E P Q : Type 0} (r : Result T E) → (P → Q) → OnErr r P → OnErr r Q
on_err (Ok x) f p = tt
on_err (Err e) f p = f p

pub returns-in-Some-clause-ok : goal.returns-in-Some-clause-ok
returns-in-Some-clause-ok c =
    let name = c.args.piece.now.name in
    let holds = c.get_mut.follows.holds c.lay.new.self in
    let wrote = written_through c.args.self.now name c.self.inside.versions.entries _ c.in-Some.version.now c.lay.new.self c.self.view_is c.in-Some.ensures.value (λ some. (holds.3 some).0) in
    let made : Option Version → Version = λ v. record { commit = c.args.commit; content = laid c.args.piece.now.offset c.args.piece.now.bytes (unwrap_or (option_map (λ (v : Version). v.content) v) []) } in
    on_ok c.lay.result (λ (e : c.lay.new.self ≡ made (Some c.in-Some.version.now)). wrote.0 ∙ ap (map.insert c.args.self.now name) (e ∙ ap made (sym wrote.1))) c.lay.ensures.ok

pub returns-in-Some-clause-err : goal.returns-in-Some-clause-err
returns-in-Some-clause-err c =
    let name = c.args.piece.now.name in
    let holds = c.get_mut.follows.holds c.lay.new.self in
    let wrote = written_through c.args.self.now name c.self.inside.versions.entries _ c.in-Some.version.now c.lay.new.self c.self.view_is c.in-Some.ensures.value (λ some. (holds.3 some).0) in
    on_err c.lay.result (λ (e : c.lay.new.self ≡ c.in-Some.version.now). wrote.0 ∙ ap (map.insert c.args.self.now name) e ∙ insert_same c.args.self.now name c.in-Some.version.now wrote.1) c.lay.ensures.err

pub returns-clause-ok : goal.returns-clause-ok
returns-clause-ok c =
    let name = c.args.piece.now.name in
    let before = c.get_mut.follows.lender-at-none in
    let made : Option Version → Version = λ v. record { commit = c.args.commit; content = laid c.args.piece.now.offset c.args.piece.now.bytes (unwrap_or (option_map (λ (v : Version). v.content) v) []) } in
    let absent : map.get c.args.self.now name ≡ None = ap (λ m. map.get m name) (sym c.self.view_is) ∙ get_entry c.self.inside.versions.entries name ∙ sym c.in_default.ensures.value in
    one_given before.entries c.insert.new.self.entries c.in_ok-copy.field-0 c.lay-2.new.self c.in_ok-insert.ensures.updates.0
    ∙ ap (λ n. map.insert (map.from_entries before.entries) n c.lay-2.new.self) c.in_ok-copy.ensures
    ∙ ap (λ m. map.insert m name c.lay-2.new.self) (ap (λ versions. map.from_entries versions.entries) c.get_mut.follows.holds-at-none ∙ c.self.view_is)
    ∙ ap (map.insert c.args.self.now name) (c.in_ok-lay.ensures.ok ∙ ap (λ (b : List ℕ). let v : Version = record { commit = c.args.commit; content = laid c.args.piece.now.offset c.args.piece.now.bytes b } in v) c.new.ensures ∙ ap made (sym absent))

pub returns-in-Some-clause-objects : goal.returns-in-Some-clause-objects
returns-in-Some-clause-objects c =
    on_ok c.lay.result (λ e. ap objects_in e ∙ objects_with_piece c.args.commit c.args.piece.now c.args.self.now) (returns-in-Some-clause-ok c)

pub returns-clause-objects : goal.returns-clause-objects
returns-clause-objects c =
    ap objects_in (returns-clause-ok c) ∙ objects_with_piece c.args.commit c.args.piece.now c.args.self.now
