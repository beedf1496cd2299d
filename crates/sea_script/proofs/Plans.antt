-- The requests of each client, and the plan of them.
use Rattle.std.proofs.Common.{◌≡◌, ◌≢◌, inl, inr, Bool, true, false, ℕ, zero, suc, ◌+◌, ◌-◌, ◌<◌, ◌≤◌, List, [], ◌∷◌, ◌++◌, length, take, get_or, set, refl, sym, ap, subst, ◌∙◌, arith, eqb, length-append, append_assoc}
use Rattle.std.specs.Prelude.{map, max, replicate}
use Rattle.std.proofs.lemmas.List.Sums.{sum_by_push}
use Rattle.std.specs.List.{range_with_len, AllByRecursion}
use Rattle.std.proofs.lemmas.Bool.Decides.{eqb_tells}
use Rattle.std.proofs.lemmas.List.{length-map, get_or-set_same, get_or-set_other}
use Rattle.sea_object.specs.declared.op.Op.{Op}
use Rattle.sea_history.specs.Plan.{Requests, requests_of}
use Rattle.sea_script.specs.declared.asked.Asked.{Asked}
use Rattle.sea_script.specs.Script.{IsClient, greatest_client, requests_by, reads_weight, weight_of}

-- ---- the greatest client

pub greatest_more : (all : List Asked) (i : ℕ) (d : Asked) → i < length all → greatest_client (take (suc i) all) ≡ max (greatest_client (take i all)) (get_or all i d).client
greatest_more [] i d within = absurd (omega arith)
greatest_more (a ∷ all) zero d within = omega arith
greatest_more (a ∷ all) (suc i) d within =
    let others = greatest_more all i d (omega arith) in
    omega (arith, others)

pub greatest_some : (all : List Asked) → 1 ≤ greatest_client all
greatest_some [] = omega arith
greatest_some (a ∷ all) = omega (arith, greatest_some all)

pub greatest_few : (all : List Asked) → AllByRecursion (λ a. IsClient a.client) all → greatest_client all ≤ 16
greatest_few [] clients = omega arith
greatest_few (a ∷ all) clients = omega (arith, greatest_few all clients.1, clients.0.1)

pub greatest_above : (done : List Asked) (a : Asked) (rest : List Asked) → a.client ≤ greatest_client (done ++ a ∷ rest)
greatest_above [] a rest = omega arith
greatest_above (b ∷ done) a rest = omega (arith, greatest_above done a rest)

-- ---- the requests of a client

own_step : (client : ℕ) (x : Asked) (xs : List Asked) (a : Asked) → requests_by client (xs ++ a ∷ []) ≡ requests_by client xs ++ a.request ∷ [] → (b : Bool) → eqb client x.client ≡ b → requests_by client (x ∷ xs ++ a ∷ []) ≡ requests_by client (x ∷ xs) ++ a.request ∷ []
own_step client x xs a others true is = rw is (ap (λ rs. x.request ∷ rs) others)
own_step client x xs a others false is = rw is others

pub own_more : (client : ℕ) (xs : List Asked) (a : Asked) → eqb client a.client ≡ true → requests_by client (xs ++ a ∷ []) ≡ requests_by client xs ++ a.request ∷ []
own_more client [] a own = rw own refl
own_more client (x ∷ xs) a own = own_step client x xs a (own_more client xs a own) (eqb client x.client) refl

other_step : (client : ℕ) (x : Asked) (xs : List Asked) (a : Asked) → requests_by client (xs ++ a ∷ []) ≡ requests_by client xs → (b : Bool) → eqb client x.client ≡ b → requests_by client (x ∷ xs ++ a ∷ []) ≡ requests_by client (x ∷ xs)
other_step client x xs a others true is = rw is (ap (λ rs. x.request ∷ rs) others)
other_step client x xs a others false is = rw is others

pub other_more : (client : ℕ) (xs : List Asked) (a : Asked) → eqb client a.client ≡ false → requests_by client (xs ++ a ∷ []) ≡ requests_by client xs
other_more client [] a other = rw other refl
other_more client (x ∷ xs) a other = other_step client x xs a (other_more client xs a other) (eqb client x.client) refl

count_step : (client : ℕ) (x : Asked) (xs ys : List Asked) → length (requests_by client xs) ≤ length (requests_by client (xs ++ ys)) → (b : Bool) → eqb client x.client ≡ b → length (requests_by client (x ∷ xs)) ≤ length (requests_by client (x ∷ xs ++ ys))
count_step client x xs ys others true is = rw is (omega (arith, others))
count_step client x xs ys others false is = rw is others

-- more requests are no fewer of any client
pub count_grows : (client : ℕ) (xs ys : List Asked) → length (requests_by client xs) ≤ length (requests_by client (xs ++ ys))
count_grows client [] ys = omega arith
count_grows client (x ∷ xs) ys = count_step client x xs ys (count_grows client xs ys) (eqb client x.client) refl

-- ---- lists for each client

map_same : (f g : ℕ → List (List Op)) (start n : ℕ) → ((c : ℕ) → start ≤ c → f c ≡ g c) → map f (range_with_len start n) ≡ map g (range_with_len start n)
map_same f g start zero same = refl
map_same f g start (suc n) same =
    ap (λ x. x ∷ map f (range_with_len (start + 1) n)) (same start (omega arith)) ∙ ap (λ xs. g start ∷ xs) (map_same f g (start + 1) n (λ c above. same c (omega (arith, above))))

set_range : (f g : ℕ → List (List Op)) (start n k : ℕ) (v : List (List Op)) → k < n → ((c : ℕ) → (c ≡ start + k → ⊥) → f c ≡ g c) → v ≡ g (start + k) → set (map f (range_with_len start n)) k v ≡ map g (range_with_len start n)
set_range f g start zero k v within same is = absurd (omega arith)
set_range f g start (suc n) zero v within same is =
    let here : start + 0 ≡ start = omega arith in
    ap (λ x. x ∷ map f (range_with_len (start + 1) n)) (is ∙ ap g here) ∙ ap (λ xs. g start ∷ xs) (map_same f g (start + 1) n (λ c above. same c (λ e. omega (arith, e, above))))
set_range f g start (suc n) (suc k) v within same is =
    let next : start + suc k ≡ start + 1 + k = omega arith in
    ap (λ x. x ∷ set (map f (range_with_len (start + 1) n)) k v) (same start (λ e. omega (arith, e))) ∙ ap (λ xs. g start ∷ xs) (set_range f g (start + 1) n k v (omega arith) (λ c isnt. same c (λ e. isnt (omega (arith, e)))) (is ∙ ap g next))

get_range : (f : ℕ → List (List Op)) (start n k : ℕ) (d : List (List Op)) → k < n → get_or (map f (range_with_len start n)) k d ≡ f (start + k)
get_range f start zero k d within = absurd (omega arith)
get_range f start (suc n) zero d within = let here : start ≡ start + 0 = omega arith in ap f here
get_range f start (suc n) (suc k) d within =
    let next : start + 1 + k ≡ start + suc k = omega arith in
    get_range f (start + 1) n k d (omega arith) ∙ ap f next

range_length : (start n : ℕ) → length (range_with_len start n) ≡ n
range_length start zero = refl
range_length start (suc n) = ap suc (range_length (start + 1) n)

-- the plan of so many clients
abbrev pub plan_up_to : ℕ → List Asked → Requests
plan_up_to clients asked = map (λ client. requests_by client asked) (range_with_len 1 clients)

pub plan_length : (clients : ℕ) (asked : List Asked) → length (plan_up_to clients asked) ≡ clients
plan_length clients asked =
    length-map (range_with_len 1 clients) (λ client. requests_by client asked) ∙ range_length 1 clients

requests_at : (plan : Requests) (client : ℕ) → 1 ≤ client → requests_of client plan ≡ get_or plan (client - 1) []
requests_at plan zero some = absurd (omega arith)
requests_at plan (suc c) some = let e : c ≡ suc c - 1 = omega arith in ap (λ i. get_or plan i []) e

pub plan_has : (clients client : ℕ) (asked : List Asked) → 1 ≤ client → client ≤ clients → requests_of client (plan_up_to clients asked) ≡ requests_by client asked
plan_has clients client asked some few =
    let here : 1 + (client - 1) ≡ client = omega arith in
    requests_at (plan_up_to clients asked) client some ∙ get_range (λ c. requests_by c asked) 1 clients (client - 1) [] (omega arith) ∙ ap (λ c. requests_by c asked) here

-- with one request more
pub plan_more : (clients : ℕ) (done : List Asked) (a : Asked) → 1 ≤ a.client → a.client ≤ clients → set (plan_up_to clients done) (a.client - 1) (requests_of a.client (plan_up_to clients done) ++ a.request ∷ []) ≡ plan_up_to clients (done ++ a ∷ [])
plan_more clients done a some few =
    let here : a.client ≡ 1 + (a.client - 1) = omega arith in
    set_range (λ c. requests_by c done) (λ c. requests_by c (done ++ a ∷ [])) 1 clients (a.client - 1) (requests_of a.client (plan_up_to clients done) ++ a.request ∷ []) (omega arith) (λ c isnt. others c isnt) (ap (λ rs. rs ++ a.request ∷ []) (plan_has clients a.client done some few) ∙ sym (same a.client refl) ∙ ap (λ c. requests_by c (done ++ a ∷ [])) here)
  where
    same : (c : ℕ) → c ≡ a.client → requests_by c (done ++ a ∷ []) ≡ requests_by c done ++ a.request ∷ []
    same c is = elim (eqb_tells c a.client) [ inl own ↦ own_more c done a own.0 | inr other ↦ absurd (other.1 is) ]

    others : (c : ℕ) → (c ≡ 1 + (a.client - 1) → ⊥) → requests_by c done ≡ requests_by c (done ++ a ∷ [])
    others c isnt =
        elim (eqb_tells c a.client) [ inl own ↦ absurd (isnt (omega (arith, own.1))) | inr other ↦ sym (other_more c done a other.0) ]

-- the client has room for it
pub has_room : (done : List Asked) (a : Asked) (rest : List Asked) → length (requests_by a.client (done ++ a ∷ rest)) ≤ 10000 → length (requests_by a.client done) < 10000
has_room done a rest few =
    elim (eqb_tells a.client a.client) [
      | inl own ↦
          let more = ap length (own_more a.client done a own.0) in
          let grows = count_grows a.client (done ++ a ∷ []) rest in
          let whole : length (requests_by a.client ((done ++ a ∷ []) ++ rest)) ≤ 10000 = simp append_assoc few in
          omega (arith, more, grows, whole, length-append (requests_by a.client done) (a.request ∷ []))
      | inr other ↦ absurd (other.1 refl)
    ]

-- ---- a draft with one request more

pub counted_more : (counts : List ℕ) (asked : List Asked) (a : Asked) (next : ℕ) → length counts ≡ 16 → ((client : ℕ) → IsClient client → get_or counts (client - 1) 0 ≡ length (requests_by client asked)) → IsClient a.client → next ≡ get_or counts (a.client - 1) 0 + 1 → (client : ℕ) → IsClient client → get_or (set counts (a.client - 1) next) (client - 1) 0 ≡ length (requests_by client (asked ++ a ∷ []))
counted_more counts asked a next long counted is number client is_client =
    elim (eqb_tells client a.client) [
      | inl own ↦
          let here : get_or (set counts (a.client - 1) next) (a.client - 1) 0 ≡ next = get_or-set_same counts (a.client - 1) next 0 (omega arith) in
          let before : get_or counts (a.client - 1) 0 ≡ length (requests_by client asked) = counted a.client is ∙ ap (λ c. length (requests_by c asked)) (sym own.1) in
          ap (λ c. get_or (set counts (a.client - 1) next) (c - 1) 0) own.1 ∙ here ∙ number ∙ ap (λ n. n + 1) before ∙ sym (ap length (own_more client asked a own.0) ∙ length-append (requests_by client asked) (a.request ∷ []))
      | inr other ↦
          let apart : client - 1 ≢ a.client - 1 = λ same. other.1 (omega (arith, same)) in
          get_or-set_other counts (a.client - 1) (client - 1) next 0 apart ∙ counted client is_client ∙ ap length (sym (other_more client asked a other.0))
    ]

pub few_more : (asked : List Asked) (a : Asked) → ((client : ℕ) → IsClient client → length (requests_by client asked) ≤ 10000) → length (requests_by a.client asked) < 10000 → (client : ℕ) → IsClient client → length (requests_by client (asked ++ a ∷ [])) ≤ 10000
few_more asked a few room client is =
    elim (eqb_tells client a.client) [
      | inl own ↦
          let more = ap length (own_more client asked a own.0) in
          let same = ap (λ c. length (requests_by c asked)) own.1 in
          omega (arith, more, same, length-append (requests_by client asked) (a.request ∷ []))
      | inr other ↦ omega (arith, ap length (other_more client asked a other.0), few client is)
    ]

pub clients_more : (asked : List Asked) (a : Asked) → AllByRecursion (λ x. IsClient x.client) asked → IsClient a.client → AllByRecursion (λ x. IsClient x.client) (asked ++ a ∷ [])
clients_more [] a all this = (this, tt)
clients_more (x ∷ asked) a all this = (all.0, clients_more asked a all.1 this)

pub weight_more : (asked : List Asked) (a : Asked) → weight_of (asked ++ a ∷ []) ≡ weight_of asked + reads_weight a.request
weight_more asked a = sum_by_push (λ x. reads_weight x.request) asked a

-- ---- going through requests

pub plan_none : (start n : ℕ) → map (λ client. requests_by client []) (range_with_len start n) ≡ replicate n []
plan_none start zero = refl
plan_none start (suc n) = ap (λ xs. [] ∷ xs) (plan_none (start + 1) n)

pub client_at : (done : List Asked) (a : Asked) (rest : List Asked) → AllByRecursion (λ x. IsClient x.client) (done ++ a ∷ rest) → IsClient a.client
client_at [] a rest all = all.0
client_at (x ∷ done) a rest all = client_at done a rest all.1

-- the next request of a list of all
pub record IsNext (all done : List Asked) (a : Asked) : Type 0 where
  pub client : IsClient a.client
  pub within : a.client ≤ greatest_client all
  pub room : length (requests_by a.client done) < 10000

pub next_of : (all done rest : List Asked) (a : Asked) → all ≡ done ++ a ∷ rest → AllByRecursion (λ x. IsClient x.client) all → ((client : ℕ) → IsClient client → length (requests_by client all) ≤ 10000) → IsNext all done a
next_of all done rest a whole clients few =
    let is = client_at done a rest (subst (AllByRecursion (λ x. IsClient x.client)) whole clients) in
    record {
      client = is;
      within = subst (λ xs. a.client ≤ greatest_client xs) (sym whole) (greatest_above done a rest);
      room = has_room done a rest (subst (λ xs. length (requests_by a.client xs) ≤ 10000) whole (few a.client is));
    }
