-- An entry with its client's next number keeps the entries numbered.
use Rattle.std.proofs.Common.{◌≡◌, ℕ, zero, suc, ◌+◌, ◌-◌, ◌≤◌, ◌<◌, inl, inr, ◌≢◌, Bool, true, false, List, [], ◌∷◌, ◌++◌, length, get_or, set, refl, sym, ap, ◌∙◌, arith, eqb, length-append}
use Rattle.std.specs.Prelude.{filter}
use Rattle.std.specs.List.{range_with_len, AllByRecursion}
use Rattle.std.proofs.lemmas.Bool.Decides.{eqb_tells}
use Rattle.std.proofs.lemmas.List.{length-map, get_or-set_same, get_or-set_other}
use Rattle.std.proofs.Math.ListN.{replicate}
use Rattle.std.proofs.lemmas.List.Sums.{length-filter}
use Rattle.sea_object.specs.declared.op.Op.{Op}
use Rattle.sea_history.specs.Plan.{Requests, requests_of}
use Rattle.sea_history.specs.History.{AreNumbered, numbers_of}
use Rattle.sea_history.specs.Record.{count_of}
use Rattle.sea_history.specs.declared.history.Entry.{Entry}

-- the requests of a client of the plan
pub requests_at : (plan : Requests) (client : ℕ) → 1 ≤ client → requests_of client plan ≡ get_or plan (client - 1) []
requests_at plan zero some = absurd (omega arith)
requests_at plan (suc c) some = let e : c ≡ suc c - 1 = omega arith in ap (λ i. get_or plan i []) e

-- what holds of each item holds of the one at a place
pub all_at : {X : Type 0} (P : X → Type 0) (xs : List X) (i : ℕ) (d : X) → AllByRecursion P xs → i < length xs → P (get_or xs i d)
all_at P [] i d all within = absurd (omega arith)
all_at P (x ∷ xs) zero d all within = all.0
all_at P (x ∷ xs) (suc i) d all within = all_at P xs i d all.1 (omega arith)

-- and of each after one is replaced
pub all_set : {X : Type 0} (P : X → Type 0) (xs : List X) (i : ℕ) (x : X) → AllByRecursion P xs → P x → AllByRecursion P (set xs i x)
all_set P [] i x all this = tt
all_set P (y ∷ ys) zero x all this = (this, all.1)
all_set P (y ∷ ys) (suc i) x all this = (all.0, all_set P ys i x all.1 this)

range_more : (a n : ℕ) → range_with_len a (suc n) ≡ range_with_len a n ++ (a + n) ∷ []
range_more a zero = let e : a ≡ a + 0 = omega arith in ap (λ x. x ∷ []) e
range_more a (suc n) =
    let e : a + 1 + n ≡ a + suc n = omega arith in
    ap (λ xs. a ∷ xs) (range_more (a + 1) n ∙ ap (λ x. range_with_len (a + 1) n ++ x ∷ []) e)

pub count_is : (client : ℕ) (es : List Entry) → length (numbers_of client es) ≡ count_of client es
count_is client es =
    length-map (filter (λ e. eqb client e.client) es) (λ e. e.number) ∙ length-filter (λ e. eqb client e.client) es

own_step : (client : ℕ) (x : Entry) (es : List Entry) (e : Entry) → numbers_of client (es ++ e ∷ []) ≡ numbers_of client es ++ e.number ∷ [] → (b : Bool) → eqb client x.client ≡ b → numbers_of client (x ∷ es ++ e ∷ []) ≡ numbers_of client (x ∷ es) ++ e.number ∷ []
own_step client x es e others true is = rw is (ap (λ ns. x.number ∷ ns) others)
own_step client x es e others false is = rw is others

own_more : (client : ℕ) (es : List Entry) (e : Entry) → eqb client e.client ≡ true → numbers_of client (es ++ e ∷ []) ≡ numbers_of client es ++ e.number ∷ []
own_more client [] e own = rw own refl
own_more client (x ∷ es) e own = own_step client x es e (own_more client es e own) (eqb client x.client) refl

other_step : (client : ℕ) (x : Entry) (es : List Entry) (e : Entry) → numbers_of client (es ++ e ∷ []) ≡ numbers_of client es → (b : Bool) → eqb client x.client ≡ b → numbers_of client (x ∷ es ++ e ∷ []) ≡ numbers_of client (x ∷ es)
other_step client x es e others true is = rw is (ap (λ ns. x.number ∷ ns) others)
other_step client x es e others false is = rw is others

other_more : (client : ℕ) (es : List Entry) (e : Entry) → eqb client e.client ≡ false → numbers_of client (es ++ e ∷ []) ≡ numbers_of client es
other_more client [] e other = rw other refl
other_more client (x ∷ es) e other = other_step client x es e (other_more client es e other) (eqb client x.client) refl

-- the counts after an entry: its client has one more, and no other client has
pub count_more : (client : ℕ) (es : List Entry) (e : Entry) → client ≡ e.client → count_of client (es ++ e ∷ []) ≡ count_of client es + 1
count_more client es e is =
    elim (eqb_tells client e.client) [
      | inl own ↦ sym (count_is client (es ++ e ∷ [])) ∙ ap length (own_more client es e own.0) ∙ length-append (numbers_of client es) (e.number ∷ []) ∙ ap (λ n. n + 1) (count_is client es)
      | inr other ↦ absurd (other.1 is)
    ]

pub count_kept : (client : ℕ) (es : List Entry) (e : Entry) → client ≢ e.client → count_of client (es ++ e ∷ []) ≡ count_of client es
count_kept client es e is_not =
    elim (eqb_tells client e.client) [
      | inl own ↦ absurd (is_not own.1)
      | inr other ↦ sym (count_is client (es ++ e ∷ [])) ∙ ap length (other_more client es e other.0) ∙ count_is client es
    ]

pub numbered_more : (es : List Entry) (e : Entry) → AreNumbered es → e.number ≡ count_of e.client es + 1 → AreNumbered (es ++ e ∷ [])
numbered_more es e numbered next =
    λ client. elim (eqb_tells client e.client) [
      | inl own ↦
          let n = length (numbers_of client es) in
          let number : e.number ≡ 1 + n = next ∙ ap (λ c. count_of c es + 1) (sym own.1) ∙ (let same = count_is client es in omega arith) in
          let more : length (numbers_of client (es ++ e ∷ [])) ≡ suc n = ap length (own_more client es e own.0) ∙ length-append (numbers_of client es) (e.number ∷ []) ∙ omega arith in
          own_more client es e own.0 ∙ ap (λ x. numbers_of client es ++ x ∷ []) number ∙ ap (λ xs. xs ++ (1 + n) ∷ []) (numbered client) ∙ sym (range_more 1 n) ∙ sym (ap (range_with_len 1) more)
      | inr other ↦
          let same = other_more client es e other.0 in
          same ∙ numbered client ∙ sym (ap (λ ns. range_with_len 1 (length ns)) same)
    ]

-- nothing is numbered
pub none_numbered : AreNumbered []
none_numbered = λ client. refl

-- lists without requests are no longer than the limit
pub all_empty : (n limit : ℕ) → AllByRecursion (λ requests. length requests ≤ limit) (replicate {A = List (List Op)} n [])
all_empty zero limit = tt
all_empty (suc n) limit = (omega arith, all_empty n limit)

-- the counts after the next entry of a client
pub counted_more : (counts : List ℕ) (es : List Entry) (e : Entry) → ((q : ℕ) → 1 ≤ q → q ≤ length counts → get_or counts (q - 1) 0 ≡ count_of q es) → 1 ≤ e.client → e.client ≤ length counts → e.number ≡ get_or counts (e.client - 1) 0 + 1 → (q : ℕ) → 1 ≤ q → q ≤ length counts → get_or (set counts (e.client - 1) e.number) (q - 1) 0 ≡ count_of q (es ++ e ∷ [])
counted_more counts es e counted some few number q some_q few_q =
    elim (eqb_tells q e.client) [
      | inl own ↦
          let here : get_or (set counts (e.client - 1) e.number) (e.client - 1) 0 ≡ e.number = get_or-set_same counts (e.client - 1) e.number 0 (omega arith) in
          ap (λ c. get_or (set counts (e.client - 1) e.number) (c - 1) 0) own.1 ∙ here ∙ number ∙ ap (λ n. n + 1) (counted e.client some few) ∙ ap (λ c. count_of c es + 1) (sym own.1) ∙ sym (count_more q es e own.1)
      | inr other ↦
          let apart : q - 1 ≢ e.client - 1 = λ same. other.1 (omega (arith, same)) in
          get_or-set_other counts (e.client - 1) (q - 1) e.number 0 apart ∙ counted q some_q few_q ∙ sym (count_kept q es e other.1)
    ]
