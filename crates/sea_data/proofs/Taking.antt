-- What one edit does to a transaction, and to any store that agrees with what it read.
use Rattle.std.proofs.Common.{◌≡◌, ◌≢◌, inl, inr, ℕ, ◌+◌, ◌≤◌, List, length, Option, Some, None, refl, sym, ap, subst, ◌∙◌}
use Rattle.sea_base.specs.Space.{Store, Seen, Found, Agrees, laid, ReadsAtMost, Writes}
use Rattle.sea_base.proofs.Spaces.{laid-only_read, laid_known, laid_here, laid_others, changed_others}
use Rattle.sea_data.specs.Ranges.{IsAsBefore}
use Rattle.sea_data.specs.Steps.{Edit, Shows, Takes, Clears, LaysOver}
use Rattle.sea_data.specs.Steps.Edit.{Over, Clear, Gone}
use Rattle.sea_data.proofs.Edits.{IsOver, IsCleared, over_whole, over_zeros, over_block, cleared_none, cleared_zeros, cleared_block}

-- what was noted stays
abbrev pub Grows : Seen → Seen → Type 0
Grows old new = (at : ℕ) (found : Found) → old.reads at ≡ Some found → new.reads at ≡ Some found

pub grows_agrees : (old new : Seen) (store : Store) → Grows old new → Agrees store new → Agrees store old
grows_agrees old new store grows agrees at found is = agrees at found (grows at found is)

-- What an edit of one address leaves of a transaction.
pub record Leaves (at : ℕ) (old new : Seen) : Type 0 where
  pub grows : Grows old new
  pub reads : (q : ℕ) → q ≢ at → new.reads q ≡ old.reads q
  pub others : (q : ℕ) → q ≢ at → IsAsBefore old new q
  pub laid : (store : Store) (q : ℕ) → q ≢ at → laid new store q ≡ laid old store q

leaves_write : {at : ℕ} {block : Option (List ℕ)} {old new : Seen} → Writes at block old new → Leaves at old new
leaves_write {at} {block} {old} {new} w = record {
  grows = λ q found is. w.reads q ∙ is;
  reads = λ q ne. w.reads q;
  others = λ q ne. record { changed = changed_others w q ne; view = λ c. w.others q ne; whole = w.whole q ne; splices = w.splices q ne };
  laid = λ store q ne. laid_others w store q ne;
}

leaves_read : {at : ℕ} {old new : Seen} → ReadsAtMost at old new → Leaves at old new
leaves_read {at} {old} {new} r = record {
  grows = r.only.noted;
  reads = r.others;
  others = λ q ne. record { changed = r.only.changed q; view = λ c. r.only.known q (inl c); whole = r.only.whole q; splices = r.only.splices q };
  laid = λ store q ne. laid-only_read r.only store q;
}

pub as_before_then : {a b c : Seen} {q : ℕ} → IsAsBefore a b q → IsAsBefore b c q → IsAsBefore a c q
as_before_then first later = record {
  changed = later.changed ∙ first.changed;
  view = λ c. later.view (first.changed ∙ c) ∙ first.view c;
  whole = later.whole ∙ first.whole;
  splices = later.splices ∙ first.splices;
}

leaves_then : {at : ℕ} {a b c : Seen} → Leaves at a b → Leaves at b c → Leaves at a c
leaves_then first later = record {
  grows = λ q found is. later.grows q found (first.grows q found is);
  reads = λ q ne. later.reads q ne ∙ first.reads q ne;
  others = λ q ne. as_before_then (first.others q ne) (later.others q ne);
  laid = λ store q ne. later.laid store q ne ∙ first.laid store q ne;
}

-- no call at all
leaves_none : {at : ℕ} {old new : Seen} → new ≡ old → Leaves at old new
leaves_none {at} {old} {new} same = subst (λ (s : Seen). Leaves at old s) (sym same) (record {
  grows = λ q found is. is;
  reads = λ q ne. refl;
  others = λ q ne. record { changed = refl; view = λ c. refl; whole = refl; splices = refl };
  laid = λ store q ne. refl;
})

-- what a read shows is what an agreeing store has
pub shown : {at : ℕ} {found : Option (List ℕ)} {old new : Seen} → Shows at found old new → (store : Store) → Agrees store new → laid old store at ≡ found
shown {at} {found} {old} {new} s store agrees =
    sym (laid-only_read s.reads.only store at) ∙ laid_known new store s.sound agrees at s.known ∙ s.view

leaves_lay : (at from : ℕ) (bytes : List ℕ) (found : Option (List ℕ)) {old new : Seen} → LaysOver at from bytes found old new → Leaves at old new
leaves_lay at from bytes None lays = leaves_write lays.writes
leaves_lay at from bytes (Some block) lays = leaves_write lays.1.writes

pub leaves_clear : (at cut : ℕ) (found : Option (List ℕ)) {old new : Seen} → Clears at cut found old new → Leaves at old new
leaves_clear at cut None clears = leaves_none clears
leaves_clear at cut (Some block) (inl kept) = leaves_none kept.0
leaves_clear at cut (Some block) (inr cleared) = leaves_write cleared.1.1.writes

pub leaves : (at : ℕ) (edit : Edit) {old new : Seen} → Takes at edit old new → Leaves at old new
leaves at (Over from bytes) (inl whole) = leaves_write whole.1.writes
leaves at (Over from bytes) (inr part) = leaves_then (leaves_read part.3.reads) (leaves_lay at from bytes part.1 part.4)
leaves at (Clear cut) take = leaves_then (leaves_read take.2.reads) (leaves_clear at cut take.0 take.3)
leaves at Gone take = leaves_write take.writes

-- what is laid over a store then, where bytes are laid over a block
laid_lays : (at from : ℕ) (bytes : List ℕ) (found : Option (List ℕ)) (old new : Seen) (store : Store) → from + length bytes ≤ 4096 → LaysOver at from bytes found old new → IsOver from bytes found (laid new store at)
laid_lays at from bytes None old new store room lays =
    subst (IsOver from bytes None) (sym (laid_here lays.writes store)) (over_zeros from bytes room)
laid_lays at from bytes (Some block) old new store room lays =
    subst (IsOver from bytes (Some block)) (sym (laid_here lays.1.writes store)) (over_block from bytes block lays.0 room)

pub agrees_lay : (at from : ℕ) (bytes : List ℕ) (found : Option (List ℕ)) (old new : Seen) (store : Store) → LaysOver at from bytes found old new → Agrees store new → Agrees store old
agrees_lay at from bytes found old new store lays agrees = grows_agrees old new store (leaves_lay at from bytes found lays).grows agrees

pub taken_over : (at from : ℕ) (bytes : List ℕ) (old new : Seen) (store : Store) → from + length bytes ≤ 4096 → Takes at (Over from bytes) old new → Agrees store new → IsOver from bytes (laid old store at) (laid new store at)
taken_over at from bytes old new store room (inl whole) agrees =
    subst (IsOver from bytes (laid old store at)) (sym (laid_here whole.1.writes store)) (over_whole from bytes (laid old store at) whole.0 room)
taken_over at from bytes old new store room (inr part) agrees =
    subst (λ (o : Option (List ℕ)). IsOver from bytes o (laid new store at)) (sym (shown part.3 store (agrees_lay at from bytes part.1 part.2 new store part.4 agrees)))
    (laid_lays at from bytes part.1 part.2 new store room part.4)

-- where a block is zeroed from a place on
laid_clears : (at cut : ℕ) (found : Option (List ℕ)) (old new : Seen) (store : Store) → cut ≤ 4096 → laid old store at ≡ found → Clears at cut found old new → IsCleared cut found (laid new store at)
laid_clears at cut None old new store fits is clears =
    subst (IsCleared cut None) (sym (ap (λ (s : Seen). laid s store at) clears ∙ is)) (cleared_none cut)
laid_clears at cut (Some block) old new store fits is (inl kept) =
    subst (IsCleared cut (Some block)) (sym (ap (λ (s : Seen). laid s store at) kept.0 ∙ is)) (cleared_zeros cut block kept.2)
laid_clears at cut (Some block) old new store fits is (inr cleared) =
    subst (IsCleared cut (Some block)) (sym (laid_here cleared.1.1.writes store)) (cleared_block cut block cleared.1.0 fits)

pub taken_clear : (at cut : ℕ) (old new : Seen) (store : Store) → cut ≤ 4096 → Takes at (Clear cut) old new → Agrees store new → IsCleared cut (laid old store at) (laid new store at)
taken_clear at cut old new store fits take agrees =
    let before = shown take.2 store (grows_agrees take.1 new store (leaves_clear at cut take.0 take.3).grows agrees) in
    subst (λ (o : Option (List ℕ)). IsCleared cut o (laid new store at)) (sym before)
    (laid_clears at cut take.0 take.1 new store fits (laid-only_read take.2.reads.only store at ∙ before) take.3)

-- where nothing is left
pub taken_gone : (at : ℕ) {old new : Seen} (store : Store) → Takes at Gone old new → laid new store at ≡ None
taken_gone at store take = laid_here take.writes store
