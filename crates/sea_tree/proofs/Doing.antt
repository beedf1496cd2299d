-- What calls do one after the other to a transaction's view.
use Rattle.std.proofs.Common.{◌≡◌, ◌≢◌, ◌⊎◌, ℕ, ◌+◌, List, [], ◌∷◌, ◌++◌, Bool, true, false, cond, ◌||◌, ◌==◌, Option, Some, None, refl, sym, ◌∙◌, ap, inl, inr, arith, length-append}
use Rattle.std.proofs.lemmas.Bool.{cases_Bool, eqb-true, eqb-false, true≢false}
use Rattle.std.specs.List.{Contains}
use Rattle.std.specs.Option.{IsSome, is_some}
use Rattle.std.proofs.lemmas.List.Elements.{Contains-append_left, Contains-append_right}
use Rattle.sea_base.specs.Space.{Store, Seen, IsKnown, Agrees, laid, OnlyRead, Writes}
use Rattle.sea_base.proofs.Spaces.{laid_changed, laid_unchanged}
use Rattle.sea_tree.specs.Does.{Change, overlaid, is_among, Does, ChangesAtMost}

or_left : (a b : Bool) → a ≡ true → (a || b) ≡ true
or_left true b e = refl
or_left false b e = absurd (true≢false (sym e))

or_right : (a b : Bool) → a ≡ false → (a || b) ≡ b
or_right false b e = refl
or_right true b e = absurd (true≢false e)

neither_left : (a b : Bool) → (a || b) ≡ false → a ≡ false
neither_left true b e = absurd (true≢false e)
neither_left false b e = refl

neither_right : (a b : Bool) → (a || b) ≡ false → b ≡ false
neither_right true b e = absurd (true≢false e)
neither_right false b e = e

or_assoc : (a b c : Bool) → ((a || b) || c) ≡ (a || (b || c))
or_assoc true b c = refl
or_assoc false b c = refl

some_value : {A : Type 0} (o : Option A) → IsSome o → (x : A) × (o ≡ Some x)
some_value None h = absurd (true≢false (sym h))
some_value (Some x) h = (x, refl)

-- a store under an address that is among the changes doesn't matter, and under others shows
pub overlaid-among : (changes : List Change) (s t : Store) (q : ℕ) → is_among changes q ≡ true → overlaid changes s q ≡ overlaid changes t q
overlaid-among [] s t q e = absurd (true≢false (sym e))
overlaid-among (change ∷ changes) s t q e =
    elim (q == change.0) as (λ b. (b || is_among changes q) ≡ true → cond b change.1 (overlaid changes s q) ≡ cond b change.1 (overlaid changes t q)) [
      | true ↦ λ _. refl
      | false ↦ λ e. overlaid-among changes s t q e
    ] e

pub overlaid-apart : (changes : List Change) (s : Store) (q : ℕ) → is_among changes q ≡ false → overlaid changes s q ≡ s q
overlaid-apart [] s q e = refl
overlaid-apart (change ∷ changes) s q e =
    elim (q == change.0) as (λ b. (b || is_among changes q) ≡ false → cond b change.1 (overlaid changes s q) ≡ s q) [
      | true ↦ λ e. absurd (true≢false e)
      | false ↦ λ e. overlaid-apart changes s q e
    ] e

pub overlaid-same : (changes : List Change) (s t : Store) (q : ℕ) → s q ≡ t q → overlaid changes s q ≡ overlaid changes t q
overlaid-same [] s t q e = e
overlaid-same (change ∷ changes) s t q e = ap (λ (o : Option (List ℕ)). cond (q == change.0) change.1 o) (overlaid-same changes s t q e)

pub overlaid-append : (later first : List Change) (s : Store) (q : ℕ) → overlaid (later ++ first) s q ≡ overlaid later (overlaid first s) q
overlaid-append [] first s q = refl
overlaid-append (change ∷ later) first s q = ap (λ (o : Option (List ℕ)). cond (q == change.0) change.1 o) (overlaid-append later first s q)

pub is_among-append : (later first : List Change) (q : ℕ) → is_among (later ++ first) q ≡ (is_among later q || is_among first q)
is_among-append [] first q = refl
is_among-append (change ∷ later) first q =
    ap (λ (b : Bool). q == change.0 || b) (is_among-append later first q) ∙ sym (or_assoc (q == change.0) (is_among later q) (is_among first q))

-- the calls of a space, as changes
pub Does-read : {old new : Seen} → OnlyRead old new → Does [] old new
Does-read r = record {
  reads = r.noted;
  changed = r.changed;
  view = λ q k. elim k [ inl e ↦ absurd (true≢false (sym e)) | inr k ↦ r.known q k ];
  whole = λ q e. r.whole q;
  splices = λ q e. r.splices q;
  next = omega (arith, r.next);
}

pub Does-write : {old new : Seen} (at : ℕ) (block : Option (List ℕ)) → Writes at block old new → Does ((at, block) ∷ []) old new
Does-write {old} {new} at block w = record {
  reads = λ q found e. w.reads q ∙ e;
  changed = λ q. w.changed q ∙ elim (q == at) as (λ b. (b || old.changed q) ≡ ((b || false) || old.changed q)) [ true ↦ refl | false ↦ refl ];
  view = λ q k. elim (cases_Bool (q == at)) [
    | inl e ↦ (let same : q ≡ at = eqb-true q at e in ap new.view same ∙ w.here ∙ sym (ap (λ (b : Bool). cond b block (old.view q)) e))
    | inr e ↦ w.others q (eqb-false q at e) ∙ sym (ap (λ (b : Bool). cond b block (old.view q)) e)
  ];
  whole = λ q e. w.whole q (not_one q at e);
  splices = λ q e. w.splices q (not_one q at e);
  next = omega (arith, w.next);
}
  where
    not_one : (q at : ℕ) → (q == at || false) ≡ false → q ≢ at
    not_one q at e = eqb-false q at (neither_left (q == at) false e)

-- what was known stays known, and what was changed is
pub Does-known : {old new : Seen} (changes : List Change) → Does changes old new → (q : ℕ) → IsKnown old q → IsKnown new q
Does-known {old} {new} changes d q (inl e) = inl (d.changed q ∙ elim (is_among changes q) as (λ b. (b || old.changed q) ≡ true) [ true ↦ refl | false ↦ e ])
Does-known {old} {new} changes d q (inr s) =
    let found = some_value (old.reads q) s in
    inr (ap is_some (d.reads q found.0 found.1))

pub Does-among : {old new : Seen} (changes : List Change) → Does changes old new → (q : ℕ) → is_among changes q ≡ true → new.changed q ≡ true
Does-among {old} changes d q e = d.changed q ∙ or_left _ (old.changed q) e

pub Does-then : {a b c : Seen} (first later : List Change) → Does first a b → Does later b c → Does (later ++ first) a c
Does-then {a} {b} {c} first later d e = record {
  reads = λ q found is. e.reads q found (d.reads q found is);
  changed = λ q. e.changed q ∙ ap (λ (x : Bool). is_among later q || x) (d.changed q) ∙ sym (or_assoc (is_among later q) (is_among first q) (a.changed q)) ∙ sym (ap (λ (x : Bool). x || a.changed q) (is_among-append later first q));
  view = λ q k. elim (cases_Bool (is_among later q)) [
    | inl now ↦ e.view q (inl now) ∙ overlaid-among later b.view (overlaid first a.view) q now ∙ sym (overlaid-append later first a.view q)
    | inr not_now ↦
        let k2 : (is_among first q ≡ true) ⊎ IsKnown a q = elim k [ inl x ↦ inl (sym (or_right _ (is_among first q) not_now) ∙ sym (is_among-append later first q) ∙ x) | inr x ↦ inr x ] in
        let kb : IsKnown b q = elim k2 [ inl x ↦ inl (Does-among first d q x) | inr x ↦ Does-known first d q x ] in
        e.view q (inr kb) ∙ overlaid-same later b.view (overlaid first a.view) q (d.view q k2) ∙ sym (overlaid-append later first a.view q)
  ];
  whole = λ q none. let apart : (is_among later q || is_among first q) ≡ false = sym (is_among-append later first q) ∙ none in e.whole q (neither_left _ _ apart) ∙ d.whole q (neither_right _ _ apart);
  splices = λ q none. let apart : (is_among later q || is_among first q) ≡ false = sym (is_among-append later first q) ∙ none in e.splices q (neither_left _ _ apart) ∙ d.splices q (neither_right _ _ apart);
  next = omega (arith, d.next, e.next);
}

pub Does-agrees : {old new : Seen} (changes : List Change) → Does changes old new → (store : Store) → Agrees store new → Agrees store old
Does-agrees changes d store agrees = λ at found e. agrees at found (d.reads at found e)

-- so with them laid over it a store has the changes over what it had
pub Does-laid : {old new : Seen} (changes : List Change) → Does changes old new → (store : Store) (q : ℕ) → laid new store q ≡ overlaid changes (laid old store) q
Does-laid {old} {new} changes d store q =
    elim (cases_Bool (is_among changes q)) [
      | inl e ↦ laid_changed new store q (Does-among changes d q e) ∙ d.view q (inl e) ∙ overlaid-among changes old.view (laid old store) q e
      | inr e ↦ elim (cases_Bool (old.changed q)) [
        | inl c ↦ laid_changed new store q (d.changed q ∙ or_right _ (old.changed q) e ∙ c) ∙ d.view q (inr (inl c)) ∙ overlaid-apart changes old.view q e ∙ sym (overlaid-apart changes (laid old store) q e ∙ laid_changed old store q c)
        | inr c ↦ laid_unchanged new store q (d.changed q ∙ or_right _ (old.changed q) e ∙ c) ∙ sym (overlaid-apart changes (laid old store) q e ∙ laid_unchanged old store q c)
      ]
    ]

-- How many addresses are changed and filled still.
pub ChangesAtMost-read : {old new : Seen} → OnlyRead old new → ChangesAtMost 0 old new
ChangesAtMost-read r = ([], omega arith, λ at. inr (inr (record { changed = r.changed at; view = λ c. r.known at (inl c) })))

pub ChangesAtMost-write : {old new : Seen} (at : ℕ) (block : Option (List ℕ)) → Writes at block old new → ChangesAtMost 1 old new
ChangesAtMost-write {old} {new} at block w = (
  at ∷ [],
  omega arith,
  λ q. elim (cases_Bool (q == at)) [
    | inl e ↦ inl (contains_here q at (eqb-true q at e))
    | inr e ↦ inr (inr (record { changed = w.changed q ∙ or_right _ (old.changed q) e; view = λ c. w.others q (eqb-false q at e) }))
  ],
)
  where
    contains_here : (q at : ℕ) → q ≡ at → Contains (at ∷ []) q
    contains_here q at e = (0, omega arith, sym e)

pub ChangesAtMost-drop : {old new : Seen} (at : ℕ) → Writes at None old new → ChangesAtMost 0 old new
ChangesAtMost-drop {old} {new} at w = (
  [],
  omega arith,
  λ q. elim (cases_Bool (q == at)) [
    | inl e ↦ (let same : q ≡ at = eqb-true q at e in inr (inl (w.changed q ∙ or_left _ (old.changed q) e, ap new.view same ∙ w.here)))
    | inr e ↦ inr (inr (record { changed = w.changed q ∙ or_right _ (old.changed q) e; view = λ c. w.others q (eqb-false q at e) }))
  ],
)

pub ChangesAtMost-then : {a b c : Seen} (m n : ℕ) → ChangesAtMost m a b → ChangesAtMost n b c → ChangesAtMost (n + m) a c
ChangesAtMost-then {a} {b} {c} m n first later = (
  later.0 ++ first.0,
  omega (arith, later.1, first.1, length-append later.0 first.0),
  λ q. elim (later.2 q) [
    | inl here ↦ inl (Contains-append_left later.0 first.0 q here)
    | inr (inl gone) ↦ inr (inl gone)
    | inr (inr same) ↦ elim (first.2 q) [
      | inl here ↦ inl (Contains-append_right later.0 first.0 q here)
      | inr (inl gone) ↦ inr (inl (same.changed ∙ gone.0, same.view gone.0 ∙ gone.1))
      | inr (inr before) ↦ inr (inr (record { changed = same.changed ∙ before.changed; view = λ x. same.view (before.changed ∙ x) ∙ before.view x }))
    ]
  ],
)
