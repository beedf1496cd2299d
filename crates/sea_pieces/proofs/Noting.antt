-- A read that is noted at the address of its name.
use Rattle.std.proofs.Common.{◌≡◌, ◌≢◌, ℕ, zero, suc, ◌+◌, ◌<◌, ◌≤◌, Bool, true, false, cond, List, Option, Some, None, Result, Ok, Err, OnOk, OnErr, ◌⊎◌, inl, inr, refl, sym, ap, subst, ◌∙◌, arith}
use Rattle.std.specs.Ordering.{nat_cmp, eq_by_cmp}
use Rattle.std.specs.Cmp.Lexicographic.{slice_cmp, nat_list_cmp_total}
use Rattle.std.specs.Prelude.{is_some, unwrap_or, IfOk}
use Rattle.sea_base.specs.declared.place.Laddr.{Laddr}
use Rattle.std.specs.FinMap.{get, insert, len, get-insert, len-insert}
use Rattle.std.proofs.lemmas.Map.Lookups.{exact_bytes}
use Rattle.std.proofs.lemmas.Map.Views.{tells_apart}
use Rattle.std.proofs.lemmas.Option.{same_Some}
use Rattle.sea_base.specs.declared.place.Commit.{Commit}
use Rattle.sea_sets.specs.Board.{HasNoConflict, IsOpen, NotesRead, NotesNothing, OthersStay, noted, noted_in}
use Rattle.sea_sets.specs.Versions.{first_note}
use Rattle.sea_sets.specs.declared.board.Board.{Board}
use Rattle.sea_sets.specs.declared.notes.Note.{Note}
use Rattle.sea_pieces.specs.Addresses.{AddressMap, AreApart, address_of}
use Rattle.sea_pieces.specs.Committed.{VersionMap, version_of}
use Rattle.sea_pieces.specs.Noted.{AreNoted, AreUpTo}

pub same_or : (p q : ℕ) → (p ≡ q) ⊎ (p ≢ q)
same_or p q = elim (order p q) [
  | inl less ↦ inr (λ e. absurd (omega (arith, e, less)))
  | inr rest ↦ elim rest [ inl e ↦ inl e | inr more ↦ inr (λ e. absurd (omega (arith, e, more))) ]
]
  where
    order : (p q : ℕ) → (p < q) ⊎ ((p ≡ q) ⊎ (q < p))
    order zero zero = inr (inl refl)
    order zero (suc q) = inl (omega arith)
    order (suc p) zero = inr (inr (omega arith))
    order (suc p) (suc q) = elim (order p q) [
      | inl less ↦ inl (omega (arith, less))
      | inr rest ↦ elim rest [ inl e ↦ inr (inl (omega (arith, e))) | inr more ↦ inr (inr (omega (arith, more))) ]
    ]

module _ (old : AddressMap) (name : List ℕ) where
  -- a name met keeps the addresses of all
  pub meet_keeps : (q : List ℕ) (at : ℕ) → get old q ≡ Some at → get (insert old name (address_of old name)) q ≡ Some at
  meet_keeps q at is = go (eq_by_cmp (slice_cmp nat_cmp) q name) refl (get-insert nat_list_cmp_total old name (address_of old name) q)
    where
      go : (b : Bool) → eq_by_cmp (slice_cmp nat_cmp) q name ≡ b → get (insert old name (address_of old name)) q ≡ cond b (Some (address_of old name)) (get old q) → get (insert old name (address_of old name)) q ≡ Some at
      go true e now = now ∙ ap (λ (o : Option ℕ). Some (unwrap_or o (2 + len old))) (ap (get old) (sym (tells_apart exact_bytes q name e)) ∙ is)
      go false e now = now ∙ is

  -- an address of now is one of before, or that of a name that had none
  before : (q : List ℕ) (at : ℕ) → get (insert old name (address_of old name)) q ≡ Some at → (get old q ≡ Some at) ⊎ (at ≡ 2 + len old)
  before q at is = go (eq_by_cmp (slice_cmp nat_cmp) q name) refl (sym (get-insert nat_list_cmp_total old name (address_of old name) q) ∙ is)
    where
      had : (o : Option ℕ) → get old q ≡ o → unwrap_or o (2 + len old) ≡ at → (get old q ≡ Some at) ⊎ (at ≡ 2 + len old)
      had None e is = inr (sym is)
      had (Some x) e is = inl (e ∙ ap (λ (n : ℕ). Some n) is)

      go : (b : Bool) → eq_by_cmp (slice_cmp nat_cmp) q name ≡ b → cond b (Some (address_of old name)) (get old q) ≡ Some at → (get old q ≡ Some at) ⊎ (at ≡ 2 + len old)
      go true e same = had (get old q) refl (ap (λ n. unwrap_or (get old n) (2 + len old)) (tells_apart exact_bytes q name e) ∙ same_Some (address_of old name) at same)
      go false e same = inl same

  grows : len old ≤ len (insert old name (address_of old name))
  grows = go (is_some (get old name)) (len-insert nat_list_cmp_total old name (address_of old name))
    where
      go : (b : Bool) → len (insert old name (address_of old name)) ≡ cond b (len old) (len old + 1) → len old ≤ len (insert old name (address_of old name))
      go true e = omega (arith, e)
      go false e = omega (arith, e)

  -- the notes are right as a name is met
  pub met_noted : (committed : VersionMap) (last : Commit) (board : Board) → AreNoted committed old last board → AreNoted committed (insert old name (address_of old name)) last board
  met_noted committed last board notes = record {
    given = λ client at note found. omega (arith, notes.given client at note found, grows);
    current = λ client at q is note found. elim (before q at is) [
      | inl was ↦ notes.current client at q was note found
      | inr new ↦ absurd (omega (arith, new, notes.given client at note found))
    ];
    seen = notes.seen;
  }

module _ {committed : VersionMap} {addresses : AddressMap} {last : Commit} {old new : Board} where
  -- they are right where each was there before, or is one of a read now
  pub right : AreNoted committed addresses last old → AreApart addresses → AreUpTo last committed → (name : List ℕ) (here : ℕ) → get addresses name ≡ Some here →
      ((client at : ℕ) (note : Note) → noted new client at ≡ Some note → (noted old client at ≡ Some note) ⊎ ((at ≡ here) × (note ≡ record { seen = version_of committed name; current = version_of committed name }))) →
      AreNoted committed addresses last new
  right notes apart up_to name here is cases = record {
    given = λ client at note found. elim (cases client at note found) [
      | inl was ↦ notes.given client at note was
      | inr read ↦ omega (arith, read.0, (apart.given name here is).1)
    ];
    current = λ client at q has note found. elim (cases client at note found) [
      | inl was ↦ notes.current client at q has note was
      | inr read ↦ ap (λ (n : Note). n.current) read.1 ∙ ap (version_of committed) (apart.apart name q here is (has ∙ ap (λ (n : ℕ). Some n) read.0))
    ];
    seen = λ client at note found. elim (cases client at note found) [
      | inl was ↦ notes.seen client at note was
      | inr read ↦ λ commit e. up_to name commit (ap (λ (n : Note). n.seen) (sym read.1) ∙ e)
    ];
  }

first : (o : Option Note) (seen : Option Commit) (note : Note) → Some (first_note o seen) ≡ Some note → (o ≡ Some note) ⊎ (note ≡ record { seen = seen; current = seen })
first None seen note e = inr (sym (same_Some (first_note None seen) note e))
first (Some n) seen note e = inl e

module _ (client here : ℕ) (seen : Option Commit) (old new : Board) (read : NotesRead client here seen old new) where
  -- where a note comes from
  pub note_cases : (c at : ℕ) (note : Note) → noted new c at ≡ Some note → (noted old c at ≡ Some note) ⊎ ((at ≡ here) × (note ≡ record { seen = seen; current = seen }))
  note_cases c at note found = elim (same_or c client) [
    | inl own ↦ elim (same_or at here) [
      | inl at_here ↦ elim (first (noted old client here) seen note (sym read.here ∙ ap (noted new client) (sym at_here) ∙ ap (λ n. noted new n at) (sym own) ∙ found)) [
        | inl was ↦ inl (ap (λ n. noted old n at) own ∙ ap (noted old client) at_here ∙ was)
        | inr is ↦ inr (at_here, is)
      ]
      | inr away ↦ inl (ap (λ n. noted old n at) own ∙ sym (read.elsewhere at away) ∙ ap (λ n. noted new n at) (sym own) ∙ found)
    ]
    | inr other ↦ inl (ap (λ p. noted_in p at) (sym (read.others.places c other)) ∙ found)
  ]

  -- what is noted stays noted as it is
  pub note_stays : (at : ℕ) (note : Note) → noted old client at ≡ Some note → noted new client at ≡ Some note
  note_stays at note found = elim (same_or at here) [
    | inl at_here ↦ ap (noted new client) at_here ∙ read.here ∙ ap (λ o. Some (first_note o seen)) (ap (noted old client) (sym at_here) ∙ found)
    | inr away ↦ read.elsewhere at away ∙ found
  ]

  pub was_quiet : HasNoConflict new client → HasNoConflict old client
  was_quiet quiet at note found = quiet at note (note_stays at note found)

-- and where nothing is noted
pub nothing_noted : (client : ℕ) (old new : Board) → NotesNothing client old new → (c at : ℕ) → noted new c at ≡ noted old c at
nothing_noted client old new nothing c at = elim (same_or c client) [
  | inl own ↦ ap (λ n. noted new n at) own ∙ nothing.same at ∙ ap (λ n. noted old n at) (sym own)
  | inr other ↦ ap (λ p. noted_in p at) (nothing.others.places c other)
]

pub same_notes : {committed : VersionMap} {addresses : AddressMap} {last : Commit} {old new : Board} → AreNoted committed addresses last old → ((c at : ℕ) → noted new c at ≡ noted old c at) → AreNoted committed addresses last new
same_notes notes same = record {
  given = λ client at note found. notes.given client at note (sym (same client at) ∙ found);
  current = λ client at q has note found. notes.current client at q has note (sym (same client at) ∙ found);
  seen = λ client at note found. notes.seen client at note (sym (same client at) ∙ found);
}

module _ {T E : Type 0} (client here : ℕ) (seen : Option Commit) (old new : Board) where
  pub read_others : (r : Result T E) → OnOk r (NotesRead client here seen old new) → OnErr r (NotesNothing client old new) → OthersStay client old new
  read_others (Ok x) read nothing = read.others
  read_others (Err e) read nothing = nothing.others

  pub read_open : (r : Result T E) → OnOk r (NotesRead client here seen old new) → OnErr r (NotesNothing client old new) → IsOpen new client
  read_open (Ok x) read nothing = read.is_open
  read_open (Err e) read nothing = nothing.is_open

-- a read is noted, or there was no memory for it
pub read_noted : {T E : Type 0} {committed : VersionMap} {addresses : AddressMap} {last : Commit} {old new : Board} (r : Result T E) (client here : ℕ) (name : List ℕ) →
    OnOk r (NotesRead client here (version_of committed name) old new) → OnErr r (NotesNothing client old new) →
    AreNoted committed addresses last old → AreApart addresses → AreUpTo last committed → get addresses name ≡ Some here → AreNoted committed addresses last new
read_noted {committed = committed} {old = old} {new = new} (Ok x) client here name read nothing notes apart up_to is =
    right notes apart up_to name here is (note_cases client here (version_of committed name) old new read)
read_noted {old = old} {new = new} (Err e) client here name read nothing notes apart up_to is =
    same_notes notes (nothing_noted client old new nothing)

-- one first note at most
pub noted_most : {T E : Type 0} (r : Result T E) (client here : ℕ) (seen : Option Commit) (old new : Board) → OnOk r (NotesRead client here seen old new) → OnErr r (NotesNothing client old new) →
    (at : ℕ) → (noted new client at ≡ noted old client at) ⊎ ((noted old client at ≡ None) × (at ≡ here) × (noted new client at ≡ Some (record { seen = seen; current = seen })))
noted_most (Err e) client here seen old new read nothing at = inl (nothing.same at)
noted_most (Ok x) client here seen old new read nothing at = elim (same_or at here) [
  | inr away ↦ inl (read.elsewhere at away)
  | inl at_here ↦ go at_here (noted old client here) refl
]
  where
    go : at ≡ here → (o : Option Note) → noted old client here ≡ o → (noted new client at ≡ noted old client at) ⊎ ((noted old client at ≡ None) × (at ≡ here) × (noted new client at ≡ Some (record { seen = seen; current = seen })))
    go at_here None is = inr (ap (noted old client) at_here ∙ is, at_here, ap (noted new client) at_here ∙ read.here ∙ ap (λ o. Some (first_note o seen)) is)
    go at_here (Some note) is = inl (ap (noted new client) at_here ∙ read.here ∙ ap (λ o. Some (first_note o seen)) is ∙ sym (ap (noted old client) at_here ∙ is))

-- a name is met, or there was no memory for it
module _ {E : Type 0} (r : Result Laddr E) (old new : AddressMap) (name : List ℕ) (address : IfOk r (λ at. at.0 ≡ address_of old name)) (met : IfOk r (λ at. new ≡ insert old name at.0)) (same : OnErr r (new ≡ old)) where
  pub meets_noted : (m : VersionMap) (last : Commit) (board : Board) → AreNoted m old last board → AreNoted m new last board
  meets_noted m last board notes = go r address met same
    where
      go : (r : Result Laddr E) → IfOk r (λ at. at.0 ≡ address_of old name) → IfOk r (λ at. new ≡ insert old name at.0) → OnErr r (new ≡ old) → AreNoted m new last board
      go (Ok at) address met same = subst (λ a. AreNoted m a last board) (sym (met ∙ ap (insert old name) address)) (met_noted old name m last board notes)
      go (Err e) address met same = subst (λ a. AreNoted m a last board) (sym same) notes
