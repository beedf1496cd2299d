-- Histories of client 1: one entry more, and what a history of all its requests serves.
use Rattle.std.proofs.Common.{◌≡◌, ℕ, zero, suc, ◌+◌, ◌-◌, ◌≤◌, ◌<◌, Bool, true, false, cond, nat_eq, List, [], ◌∷◌, ◌++◌, length, refl, sym, ap, ◌∙◌, subst, arith, length-append}
use Rattle.std.specs.Prelude.{map, filter, Some, slice_get}
use Rattle.std.specs.List.{AllByRecursion, range_with_len}
use Rattle.std.specs.Option.{option_map}
use Rattle.std.proofs.lemmas.Option.{slice_get-map}
use Rattle.std.proofs.lemmas.List.{map-append, length-map}
use Rattle.sea_plain.specs.declared.op.Op.{Op}
use Rattle.sea_plain.specs.declared.reply.Reply.{Reply}
use Rattle.sea_plain.specs.Objects.{ObjectMap}
use Rattle.sea_plain_script.specs.declared.plan.Asked.{Asked}
use Rattle.sea_plain_script.specs.declared.history.Entry.{Entry}
use Rattle.sea_top.specs.History.{requests_of, numbers_of, IsReply, after_reply, Legal, Serves, ServesFully}
use Rattle.sea_top.specs.History.{none, more}
use Rattle.sea_top.specs.Pieces.{need_of}
use Rattle.sea_top.specs.Room.{HasRoom, rest_after, KeepsRoom}
use Rattle.sea_top.specs.Room as room
use Rattle.sea_top.specs.Serving.{AsksFirst, Served}

pub Legal-push : {plan : List Asked} {first last : ObjectMap} {entries : List Entry} → Legal plan first entries last → (entry : Entry) (request : List Op) → slice_get (requests_of entry.client plan) (entry.number - 1) ≡ Some request → IsReply entry.reply request last → Legal plan first (entries ++ entry ∷ []) (after_reply entry.reply request last)
Legal-push none entry request found reply = more request found reply none
Legal-push (more earlier found_earlier reply_earlier legal) entry request found reply =
    more earlier found_earlier reply_earlier (Legal-push legal entry request found reply)

pub KeepsRoom-push : {plan : List Asked} {rest left : ℕ} {entries : List Entry} → KeepsRoom plan rest entries left → (entry : Entry) (request : List Op) → slice_get (requests_of entry.client plan) (entry.number - 1) ≡ Some request → HasRoom entry.reply (need_of request) left → KeepsRoom plan rest (entries ++ entry ∷ []) (rest_after entry.reply (need_of request) left)
KeepsRoom-push room.none entry request found has = room.more request found has room.none
KeepsRoom-push (room.more earlier found_earlier has_earlier keeps) entry request found has =
    room.more earlier found_earlier has_earlier (KeepsRoom-push keeps entry request found has)

-- where all are of client 1, another client has none
filter_first : {X : Type 0} (client : X → ℕ) (c : ℕ) (xs : List X) → AllByRecursion (λ x. client x ≡ 1) xs → filter (λ x. nat_eq c (client x)) xs ≡ cond (nat_eq c 1) xs []
filter_first client c [] all = both (nat_eq c 1)
  where
    both : {X : Type 0} (b : Bool) → ◌≡◌ {A = List X} [] (cond b [] [])
    both true = refl
    both false = refl
filter_first {X} client c (x ∷ xs) all =
    ap (λ (n : ℕ). cond (nat_eq c n) (x ∷ filter (λ x. nat_eq c (client x)) xs) (filter (λ x. nat_eq c (client x)) xs)) all.0 ∙ ap (λ (r : List X). cond (nat_eq c 1) (x ∷ r) r) (filter_first client c xs all.1) ∙ one x xs (nat_eq c 1)
  where
    one : {X : Type 0} (x : X) (xs : List X) (b : Bool) → cond b (x ∷ cond b xs []) (cond b xs []) ≡ cond b (x ∷ xs) []
    one x xs true = refl
    one x xs false = refl

pub requests_of-first : (plan : List Asked) → AsksFirst plan → requests_of 1 plan ≡ map (λ asked. asked.request) plan
requests_of-first plan asks = ap (map (λ asked. asked.request)) (filter_first (λ asked. asked.client) 1 plan asks)

range_with_len-push : (a n : ℕ) → range_with_len a (n + 1) ≡ range_with_len a n ++ (a + n) ∷ []
range_with_len-push a zero = refl_at (omega arith)
  where
    refl_at : a ≡ a + 0 → range_with_len a (0 + 1) ≡ (a + 0) ∷ []
    refl_at e = ap (λ (k : ℕ). k ∷ []) e
range_with_len-push a (suc n) =
    let next : a + 1 + n ≡ a + suc n = omega arith in
    ap (range_with_len a) more ∙ ap (λ (r : List ℕ). a ∷ r) (range_with_len-push (a + 1) n ∙ ap (λ (k : ℕ). range_with_len (a + 1) n ++ k ∷ []) next)
  where
    more : suc n + 1 ≡ suc (n + 1)
    more = omega arith

AllByRecursion-push : {X : Type 0} (P : X → Type 0) (xs : List X) (x : X) → AllByRecursion P xs → P x → AllByRecursion P (xs ++ x ∷ [])
AllByRecursion-push P [] x all here = (here, tt)
AllByRecursion-push P (y ∷ xs) x all here = (all.0, AllByRecursion-push P xs x all.1 here)

AllByRecursion-get : {X : Type 0} (P : X → Type 0) (xs : List X) (i : ℕ) (x : X) → AllByRecursion P xs → slice_get xs i ≡ Some x → P x
AllByRecursion-get P [] i x all at = absurd cc
AllByRecursion-get P (y ∷ xs) zero x all at = let same : y ≡ x = cc in subst P same all.0
AllByRecursion-get P (y ∷ xs) (suc i) x all at = AllByRecursion-get P xs i x all.1 at

-- nothing was served yet
pub none_served : (plan : List Asked) (objects : ObjectMap) (rest : ℕ) → Served plan objects objects rest rest []
none_served plan objects rest =
    record { legal = none; room = room.none; clients = tt; numbers = refl; some = omega arith }

-- the request that the next entry answers
pub next_request : (plan : List Asked) (count : ℕ) (asked : Asked) → AsksFirst plan → slice_get plan count ≡ Some asked → slice_get (requests_of asked.client plan) (count + 1 - 1) ≡ Some asked.request
next_request plan count asked asks at =
    let client : asked.client ≡ 1 = AllByRecursion-get (λ a. a.client ≡ 1) plan count asked asks at in
    let back : count + 1 - 1 ≡ count = omega arith in
    ap (λ (n : ℕ). slice_get (requests_of n plan) (count + 1 - 1)) client ∙ ap (slice_get (requests_of 1 plan)) back ∙ ap (λ (r : List (List Op)). slice_get r count) (requests_of-first plan asks) ∙ slice_get-map (λ (a : Asked). a.request) plan count ∙ ap (option_map (λ (a : Asked). a.request)) at

-- one request more is answered
pub one_served : (plan : List Asked) (first objects : ObjectMap) (rest left : ℕ) (entries : List Entry) (asked : Asked) (reply : Reply) → AsksFirst plan → Served plan first objects rest left entries → length entries < length plan → slice_get plan (length entries) ≡ Some asked → IsReply reply asked.request objects → HasRoom reply (need_of asked.request) left → Served plan first (after_reply reply asked.request objects) rest (rest_after reply (need_of asked.request) left) (entries ++ record { client = asked.client; number = length entries + 1; reply = reply } ∷ [])
one_served plan first objects rest left entries asked reply asks served some at is_reply has =
    let client : asked.client ≡ 1 = AllByRecursion-get (λ a. a.client ≡ 1) plan (length entries) asked asks at in
    let entry : Entry = record { client = asked.client; number = length entries + 1; reply = reply } in
    let found = next_request plan (length entries) asked asks at in
    let numbers : map (λ (e : Entry). e.number) (entries ++ entry ∷ []) ≡ range_with_len 1 (length (entries ++ entry ∷ [])) =
    map-append (λ (e : Entry). e.number) entries (entry ∷ []) ∙ ap (λ (r : List ℕ). r ++ (length entries + 1) ∷ []) served.numbers ∙ numbered (length entries) ∙ ap (range_with_len 1) (sym (length-append entries (entry ∷ []))) in
    record {
      legal = Legal-push served.legal entry asked.request found is_reply;
      room = KeepsRoom-push served.room entry asked.request found has;
      clients = AllByRecursion-push (λ e. e.client ≡ 1) entries entry served.clients client;
      numbers = numbers;
      some = omega (arith, length-append entries (entry ∷ []));
    }
  where
    numbered : (n : ℕ) → range_with_len 1 n ++ (n + 1) ∷ [] ≡ range_with_len 1 (n + 1)
    numbered n =
        let e : n + 1 ≡ 1 + n = omega arith in
        ap (λ (k : ℕ). range_with_len 1 n ++ k ∷ []) e ∙ sym (range_with_len-push 1 n)

numbers_of-first : (c : ℕ) (entries : List Entry) → AllByRecursion (λ entry. entry.client ≡ 1) entries → numbers_of c entries ≡ cond (nat_eq c 1) (map (λ entry. entry.number) entries) []
numbers_of-first c entries all =
    ap (map (λ (e : Entry). e.number)) (filter_first (λ (e : Entry). e.client) c entries all) ∙ inside (nat_eq c 1)
  where
    inside : (b : Bool) → map (λ (e : Entry). e.number) (cond b entries []) ≡ cond b (map (λ (e : Entry). e.number) entries) []
    inside true = refl
    inside false = refl

requests_of-any : (c : ℕ) (plan : List Asked) → AsksFirst plan → length (requests_of c plan) ≡ cond (nat_eq c 1) (length plan) 0
requests_of-any c plan asks =
    length-map (filter (λ a. nat_eq c a.client) plan) (λ (a : Asked). a.request) ∙ ap length (filter_first (λ (a : Asked). a.client) c plan asks) ∙ inside (nat_eq c 1)
  where
    inside : (b : Bool) → length (cond b plan []) ≡ cond b (length plan) 0
    inside true = refl
    inside false = refl

numbers_count : (c : ℕ) (entries : List Entry) → AllByRecursion (λ entry. entry.client ≡ 1) entries → length (numbers_of c entries) ≡ cond (nat_eq c 1) (length entries) 0
numbers_count c entries all = ap length (numbers_of-first c entries all) ∙ inside (nat_eq c 1)
  where
    inside : (b : Bool) → length (cond b (map (λ (e : Entry). e.number) entries) []) ≡ cond b (length entries) 0
    inside true = length-map entries (λ (e : Entry). e.number)
    inside false = refl

-- what was served serves the plan
pub Serves-served : (plan : List Asked) (first last : ObjectMap) (rest left : ℕ) (entries : List Entry) → AsksFirst plan → Served plan first last rest left entries → Serves plan entries
Serves-served plan first last rest left entries asks served = record {
  numbered = λ c. subst (λ (r : List ℕ). r ≡ range_with_len 1 (length r)) (sym (numbers_of-first c entries served.clients)) (in_order (nat_eq c 1));
  asked = λ c. rw (numbers_count c entries served.clients, requests_of-any c plan asks) (as_many (nat_eq c 1));
}
  where
    in_order : (b : Bool) → cond b (map (λ (e : Entry). e.number) entries) [] ≡ range_with_len 1 (length (cond b (map (λ (e : Entry). e.number) entries) []))
    in_order true = served.numbers ∙ ap (range_with_len 1) (sym (length-map entries (λ (e : Entry). e.number)))
    in_order false = refl

    as_many : (b : Bool) → cond b (length entries) 0 ≤ cond b (length plan) 0
    as_many true = served.some
    as_many false = omega arith

-- and fully where there are as many entries as requests
pub ServesFully-served : (plan : List Asked) (first last : ObjectMap) (rest left : ℕ) (entries : List Entry) → AsksFirst plan → Served plan first last rest left entries → length entries ≡ length plan → ServesFully plan entries
ServesFully-served plan first last rest left entries asks served all c =
    numbers_count c entries served.clients ∙ ap (λ (n : ℕ). cond (nat_eq c 1) n 0) all ∙ sym (requests_of-any c plan asks)
