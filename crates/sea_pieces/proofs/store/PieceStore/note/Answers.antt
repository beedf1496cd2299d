use Rattle.std.proofs.Common.{◌≡◌, Some, Result, Ok, Err, OnOk, ℕ, Option, inl, inr, refl, sym, ap, subst, ◌∙◌}
use Rattle.std.specs.FinMap.{get, insert}
use Rattle.sea_object.proofs.Lookups.{get-insert_same}
use Rattle.sea_base.specs.declared.place.Commit.{Commit}
use Rattle.sea_sets.specs.Board.{NotesRead}
use Rattle.sea_sets.specs.declared.notes.Note.{Note}
use Rattle.sea_pieces.specs.Addresses.{address_of}
use Rattle.sea_pieces.specs.Committed.{version_of}
use Rattle.sea_pieces.specs.Noted.{AreNoted}
use Rattle.sea_pieces.specs.Store.{versions_of}
use Rattle.sea_pieces.proofs.Noting.{meet_keeps, met_noted, note_stays, noted_most, read_noted, read_open, read_others, was_quiet}
use Rattle.sea_pieces.proofs.Stable.{settled_versions}
use Rattle.sea_pieces.proofs.store.PieceStore.note.Goals as goal

on_ok : {T E P Q : Type 0} (r : Result T E) → (P → Q) → OnOk r P → OnOk r Q
on_ok (Ok x) f p = f p
on_ok (Err e) f p = tt

pub invariant_of-self-2 : goal.invariant_of-self-2
invariant_of-self-2 c =
    let old = c.args.self.now in
    let name = c.args.name.now in
    let met : c.meet.new.self ≡ insert old.addresses name (address_of old.addresses name) = c.in_ok-at.ensures.met ∙ ap (insert old.addresses name) c.in_ok-at.ensures.address in
    let here : get c.meet.new.self name ≡ Some c.in_ok-at.at.0 = ap (λ m. get m name) c.in_ok-at.ensures.met ∙ get-insert_same old.addresses name c.in_ok-at.at.0 in
    let found : c.version-seen.result ≡ version_of (versions_of old) name = c.version-seen.ensures ∙ ap (λ m. version_of m name) (sym (settled_versions old c.requires.settled)) in
    let read = subst (λ seen. OnOk c.note_read.result (NotesRead c.args.client c.in_ok-at.at.0 seen old.board c.note_read.new.self)) found c.note_read.ensures.ok in
    record {
      versions = old.versions;
      notes = read_noted c.note_read.result c.args.client c.in_ok-at.at.0 name read c.note_read.ensures.err
          (subst (λ m. AreNoted (versions_of old) m old.last old.board) (sym met) (met_noted old.addresses name (versions_of old) old.last old.board old.notes))
          c.in_ok-at.ensures.apart old.versions here;
    }

pub returns-clause-continues : goal.returns-clause-continues
returns-clause-continues c =
    let old = c.args.self.now in
    let name = c.args.name.now in
    let met : c.meet.new.self ≡ insert old.addresses name (address_of old.addresses name) = c.in_ok-at.ensures.met ∙ ap (insert old.addresses name) c.in_ok-at.ensures.address in
    record {
      versions = refl;
      last = refl;
      addresses = λ q at is. ap (λ m. get m q) met ∙ meet_keeps old.addresses name q at is;
      others = read_others c.args.client c.in_ok-at.at.0 c.version-seen.result old.board c.note_read.new.self c.note_read.result c.note_read.ensures.ok c.note_read.ensures.err;
    }

pub returns-clause-noted : goal.returns-clause-noted
returns-clause-noted c =
    let old = c.args.self.now in
    let name = c.args.name.now in
    let client = c.args.client in
    let at = c.in_ok-at.at.0 in
    let seen = c.version-seen.result in
    let new = c.note_read.new.self in
    let met : c.meet.new.self ≡ insert old.addresses name (address_of old.addresses name) = c.in_ok-at.ensures.met ∙ ap (insert old.addresses name) c.in_ok-at.ensures.address in
    let here : get c.meet.new.self name ≡ Some at = ap (λ m. get m name) c.in_ok-at.ensures.met ∙ get-insert_same old.addresses name at in
    on_ok c.note_read.result (λ (read : NotesRead client at seen old.board new). record {
      continues = returns-clause-continues c;
      quiet = was_quiet client at seen old.board new read;
      kept = λ objects shares q p is note found. shares q p (ap (λ m. get m q) met ∙ meet_keeps old.addresses name q p is) note (note_stays client at seen old.board new read p note found);
      shared = λ objects shares. shares name at here _ read.here;
    }) c.note_read.ensures.ok

pub returns-clause-notes : goal.returns-clause-notes
returns-clause-notes c =
    let old = c.args.self.now in
    let name = c.args.name.now in
    let here : get c.meet.new.self name ≡ Some c.in_ok-at.at.0 = ap (λ m. get m name) c.in_ok-at.ensures.met ∙ get-insert_same old.addresses name c.in_ok-at.at.0 in
    let found : c.version-seen.result ≡ version_of (versions_of old) name = c.version-seen.ensures ∙ ap (λ m. version_of m name) (sym (settled_versions old c.requires.settled)) in
    record {
      is_open = read_open c.args.client c.in_ok-at.at.0 c.version-seen.result old.board c.note_read.new.self c.note_read.result c.note_read.ensures.ok c.note_read.ensures.err;
      notes = λ at. elim (noted_most c.note_read.result c.args.client c.in_ok-at.at.0 c.version-seen.result old.board c.note_read.new.self c.note_read.ensures.ok c.note_read.ensures.err at) [
        | inl same ↦ inl same
        | inr new ↦ inr (
          name,
          refl,
          record {
            fresh = new.0;
            address = here ∙ ap (λ (n : ℕ). Some n) (sym new.1);
            found = new.2 ∙ ap (λ (v : Option Commit). let n : Note = record { seen = v; current = v } in Some n) found;
          },
        )
      ];
    }
