-- What reads, writes and new addresses do to a transaction, and to a store that its changes are laid over.
use Rattle.std.proofs.Common.{◌≡◌, ◌≢◌, inl, inr, ℕ, Bool, true, false, ◌||◌, ◌==◌, List, [], ◌∷◌, Option, Some, None, IsSome, is_some, if◌then◌else◌, refl, sym, ap, ◌∙◌}
use Rattle.std.proofs.lemmas.Bool.{cases_Bool, cases_eq, false≢true, eq-eqb, ne_eqb, cond-true, cond-false, or_left, or_right}
use Rattle.std.specs.Option.{option_map}
use Rattle.sea_base.specs.declared.delta.Delta.{Delta}
use Rattle.sea_base.specs.Space.{Store, Found, Seen, block_found, IsKnown, Agrees, laid, all_spliced, are_some, IsSound, OnlyRead, Writes, Gives}

some_value : {A : Type 0} (o : Option A) → IsSome o → (x : A) × (o ≡ Some x)
some_value None h = absurd (false≢true h)
some_value (Some x) h = (x, refl)

some_is : {A : Type 0} (o : Option A) (x : A) → o ≡ Some x → IsSome o
some_is o x e = ap is_some e

-- what is known stays known along reads
pub known_later : {old new : Seen} → OnlyRead old new → (at : ℕ) → IsKnown old at → IsKnown new at
known_later r at (inl c) = inl (r.changed at ∙ c)
known_later r at (inr s) =
    let found = some_value _ s in
    inr (some_is _ found.0 (r.noted at found.0 found.1))

pub only_read-refl : (seen : Seen) → OnlyRead seen seen
only_read-refl seen = record {
  noted = λ at found e. e;
  known = λ at k. refl;
  changed = λ at. refl;
  whole = λ at. refl;
  splices = λ at. refl;
  next = refl;
}

pub only_read-trans : {a b c : Seen} → OnlyRead a b → OnlyRead b c → OnlyRead a c
only_read-trans first later = record {
  noted = λ at found e. later.noted at found (first.noted at found e);
  known = λ at k. later.known at (known_later first at k) ∙ first.known at k;
  changed = λ at. later.changed at ∙ first.changed at;
  whole = λ at. later.whole at ∙ first.whole at;
  splices = λ at. later.splices at ∙ first.splices at;
  next = later.next ∙ first.next;
}

-- a store that agrees after reads agreed before them
pub agrees_before : {old new : Seen} {store : Store} → OnlyRead old new → Agrees store new → Agrees store old
agrees_before r agrees = λ at found e. agrees at found (r.noted at found e)

pub laid_changed : (seen : Seen) (store : Store) (at : ℕ) → seen.changed at ≡ true → laid seen store at ≡ seen.view at
laid_changed seen store at c = cond-true (seen.changed at) (seen.view at) (store at) c

pub laid_unchanged : (seen : Seen) (store : Store) (at : ℕ) → seen.changed at ≡ false → laid seen store at ≡ store at
laid_unchanged seen store at c = cond-false (seen.changed at) (seen.view at) (store at) c

-- reads leave what is laid
pub laid-only_read : {old new : Seen} → OnlyRead old new → (store : Store) (at : ℕ) → laid new store at ≡ laid old store at
laid-only_read {old} {new} r store at =
    elim (cases_Bool (old.changed at)) [
      | inl c ↦ laid_changed new store at (r.changed at ∙ c) ∙ r.known at (inl c) ∙ sym (laid_changed old store at c)
      | inr c ↦ laid_unchanged new store at (r.changed at ∙ c) ∙ sym (laid_unchanged old store at c)
    ]

-- an address that wasn't changed was neither placed whole nor amended
unplaced : (w s : Bool) (c : Bool) → c ≡ (w || s) → c ≡ false → (w ≡ false) × (s ≡ false)
unplaced true s c e unchanged = absurd (false≢true (sym unchanged ∙ e))
unplaced false s c e unchanged = (refl, sym e ∙ unchanged)

none_made : (deltas : List Delta) → are_some deltas ≡ false → deltas ≡ []
none_made [] e = refl
none_made (delta ∷ deltas) e = absurd (false≢true (sym e))

same_block : (o : Option (List ℕ)) → option_map (all_spliced []) o ≡ o
same_block None = refl
same_block (Some block) = refl

-- so its view is what was found there
pub view_found : (seen : Seen) → IsSound seen → (at : ℕ) (found : Found) → seen.reads at ≡ Some found → seen.changed at ≡ false → seen.view at ≡ block_found found
view_found seen sound at found read unchanged =
    let none = unplaced (seen.whole at) (are_some (seen.splices at)) (seen.changed at) (sound.changed at) unchanged in
    sound.found at found read none.0
    ∙ ap (λ (ds : List Delta). option_map (all_spliced ds) (block_found found)) (none_made (seen.splices at) none.1)
    ∙ same_block (block_found found)

-- at a known address, a store that agrees has the view laid over it
pub laid_known : (seen : Seen) (store : Store) → IsSound seen → Agrees store seen → (at : ℕ) → IsKnown seen at → laid seen store at ≡ seen.view at
laid_known seen store sound agrees at (inl c) = laid_changed seen store at c
laid_known seen store sound agrees at (inr s) =
    let found = some_value (seen.reads at) s in
    elim (cases_Bool (seen.changed at)) [
      | inl c ↦ laid_changed seen store at c
      | inr c ↦ laid_unchanged seen store at c ∙ agrees at found.0 found.1 ∙ sym (view_found seen sound at found.0 found.1 c)
    ]

module _ {at : ℕ} {block : Option (List ℕ)} {old new : Seen} (w : Writes at block old new) where
  -- an address that was written is changed, and no other becomes so
  pub changed_here : new.changed at ≡ true
  changed_here = w.changed at ∙ or_left (at == at) (old.changed at) (eq-eqb at at refl)

  pub changed_others : (q : ℕ) → q ≢ at → new.changed q ≡ old.changed q
  changed_others q ne = w.changed q ∙ ap (λ (b : Bool). b || old.changed q) (ne_eqb q at ne)

  pub known_here : IsKnown new at
  known_here = inl changed_here

  -- what is known stays known along a write
  pub known_since : (q : ℕ) → IsKnown old q → IsKnown new q
  known_since q (inl c) = inl (w.changed q ∙ or_right (q == at) (old.changed q) c)
  known_since q (inr s) = inr (rw (w.reads q) s)

  -- and an address that a write makes known is the one that was written
  pub known_only : (q : ℕ) → q ≢ at → IsKnown new q → IsKnown old q
  known_only q ne (inl c) = inl (sym (changed_others q ne) ∙ c)
  known_only q ne (inr s) = inr (rw (← w.reads q) s)

  pub view-writes : (q : ℕ) → new.view q ≡ (if q == at then block else old.view q)
  view-writes q =
      elim (cases_eq q at) [
        | inl e ↦ ap new.view e ∙ w.here ∙ sym (cond-true (q == at) block (old.view q) (eq-eqb q at e))
        | inr ne ↦ w.others q ne ∙ sym (cond-false (q == at) block (old.view q) (ne_eqb q at ne))
      ]

  -- whatever store it is laid over, what was written stands there
  pub laid_here : (store : Store) → laid new store at ≡ block
  laid_here store = laid_changed new store at changed_here ∙ w.here

  pub laid_others : (store : Store) (q : ℕ) → q ≢ at → laid new store q ≡ laid old store q
  laid_others store q ne =
      elim (cases_Bool (old.changed q)) [
        | inl c ↦ laid_changed new store q (changed_others q ne ∙ c) ∙ w.others q ne ∙ sym (laid_changed old store q c)
        | inr c ↦ laid_unchanged new store q (changed_others q ne ∙ c) ∙ sym (laid_unchanged old store q c)
      ]

  pub laid-writes : (store : Store) (q : ℕ) → laid new store q ≡ (if q == at then block else laid old store q)
  laid-writes store q =
      elim (cases_eq q at) [
        | inl e ↦ ap (laid new store) e ∙ laid_here store ∙ sym (cond-true (q == at) block (laid old store q) (eq-eqb q at e))
        | inr ne ↦ laid_others store q ne ∙ sym (cond-false (q == at) block (laid old store q) (ne_eqb q at ne))
      ]

  -- a write reads nothing, so the same stores agree
  pub agrees-writes : (store : Store) → Agrees store old → Agrees store new
  agrees-writes store agrees = λ q found e. agrees q found (sym (w.reads q) ∙ e)

  pub agrees_before-writes : (store : Store) → Agrees store new → Agrees store old
  agrees_before-writes store agrees = λ q found e. agrees q found (w.reads q ∙ e)

module _ {count : ℕ} {old new : Seen} (g : Gives count old new) where
  pub laid-gives : (store : Store) (at : ℕ) → laid new store at ≡ laid old store at
  laid-gives store at =
      elim (cases_Bool (old.changed at)) [
        | inl c ↦ laid_changed new store at (g.changed at ∙ c) ∙ g.view at ∙ sym (laid_changed old store at c)
        | inr c ↦ laid_unchanged new store at (g.changed at ∙ c) ∙ sym (laid_unchanged old store at c)
      ]

  pub agrees-gives : (store : Store) → Agrees store old → Agrees store new
  agrees-gives store agrees = λ q found e. agrees q found (sym (g.reads q) ∙ e)

  pub agrees_before-gives : (store : Store) → Agrees store new → Agrees store old
  agrees_before-gives store agrees = λ q found e. agrees q found (g.reads q ∙ e)

  pub known-gives : (q : ℕ) → IsKnown old q → IsKnown new q
  known-gives q (inl c) = inl (g.changed q ∙ c)
  known-gives q (inr s) = inr (rw (g.reads q) s)
