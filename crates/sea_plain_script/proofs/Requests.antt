-- A request's words are those of no other request.
use Rattle.std.proofs.Common.{Bool, true, false, ◌≡◌, ℕ, zero, suc, ◌-◌, ◌<◌, ◌≤◌, List, [], ◌∷◌, ◌++◌, length, Some, Err, refl, sym, ap, subst, ◌∙◌, arith, append_assoc, codes}
use Rattle.std.specs.Prelude.{slice_get, not}
use Rattle.std.specs.Str.{bytes_eq}
use Rattle.std.proofs.lemmas.Bool.{false≢true}
use Rattle.std.proofs.lemmas.Slice.Eq.{bytes_eq-Decides}
use Rattle.std.specs.List.{flat_map, AllByRecursion, join_with_byte}
use Rattle.std.proofs.lemmas.List.Splits.{join_with_byte-slice_split}
use Rattle.std.specs.Fmt.{decimal}
use Rattle.std.proofs.lemmas.List.{append-nil, length-append}
use Rattle.sea_plain.specs.declared.op.Op.{Op}
use Rattle.sea_plain.specs.declared.op.Op.TheVariants.{Write, Read}
use Rattle.sea_plain.specs.Op.{IsWithinLimits}
use Rattle.sea_plain.specs.Request.{IsRequest}
use Rattle.sea_plain.specs.Refusal.{Refuses}
use Rattle.sea_plain.specs.declared.request.RequestFault.{RequestFault}
use Rattle.sea_plain.specs.declared.request.RequestFault.TheVariants.{Empty, TooManyOps, BadRange, TooManyBlocks, TooManyKeys}
use Rattle.sea_plain_script.specs.declared.plan.Asked.{Asked}
use Rattle.sea_plain_script.specs.Script.{AreBytes, HasBytes, Asks, data_text, name_text, op_words, ops_words, request_text, request_words}
use Rattle.sea_plain_script.specs.ScriptReading.{AreOps, Finds, IsSpelled, Reads, verb_word, words}
use Rattle.sea_plain_script.specs.declared.script.fault.LineFault.{LineFault}
use Rattle.sea_plain_script.specs.declared.script.fault.LineFault.TheVariants.{NoMemory, Why}
use Rattle.sea_plain_script.specs.declared.script.request.Verb.{Verb}
use Rattle.sea_plain_script.specs.declared.script.request.Verb.TheVariants.{Write as WriteVerb, Read as ReadVerb}
use Rattle.sea_plain_script.proofs.Numbers.{one_number}
use Rattle.sea_plain_script.proofs.Spelling.{one_data, one_name, read_more}
use Rattle.sea_plain_script.proofs.Words.{number_word, ops_are_words, words_joined}

-- a later reader's fault is one of the whole, where what the whole asks for asks this of that reader
pub fails_later : {V W : Type 0} (Is : V → Type 0) (spelled : V → List (List ℕ)) (Has : W → Type 0) (whole : W → List (List ℕ)) (start old mid end : List (List ℕ)) (fault : LineFault) → Reads Is spelled old mid (Err fault) → ((w : W) (rest : List (List ℕ)) → Has w → start ≡ whole w ++ rest → (v : V) × (others : List (List ℕ)) × Is v × (old ≡ spelled v ++ others)) → Reads Has whole start end (Err fault)
fails_later Is spelled Has whole start old mid end NoMemory read step = tt
fails_later Is spelled Has whole start old mid end (Why why) read step =
    λ w rest has same. let found = step w rest has same in read found.0 found.1 found.2 found.3

-- ---- operations

-- an operation's words are at the front in one way
pub op_splits : (a b : Op) (u v : List (List ℕ)) → IsSpelled a → IsSpelled b → op_words a ++ u ≡ op_words b ++ v → (a ≡ b) × (u ≡ v)
op_splits (Write n o d) (Write m p e) u v is_a is_b same =
    let names : name_text n ≡ name_text m = cc in
    let offsets : decimal o ≡ decimal p = cc in
    let datas : data_text d ≡ data_text e = cc in
    let name : n ≡ m = one_name (name_text n) n m is_a.1 is_b.1 refl names in
    let offset : o ≡ p = one_number o p is_a.2 is_b.2 offsets in
    let bytes : d ≡ e = one_data (data_text d) d e is_a.3 is_b.3 refl datas in
    (cc, cc)
op_splits (Write n o d) (Read m p e) u v is_a is_b same = let verbs : codes "write" ≡ codes "read" = cc in cc
op_splits (Read n o d) (Write m p e) u v is_a is_b same = let verbs : codes "read" ≡ codes "write" = cc in cc
op_splits (Read n o d) (Read m p e) u v is_a is_b same =
    let names : name_text n ≡ name_text m = cc in
    let offsets : decimal o ≡ decimal p = cc in
    let counts : decimal d ≡ decimal e = cc in
    let name : n ≡ m = one_name (name_text n) n m is_a.1 is_b.1 refl names in
    let offset : o ≡ p = one_number o p is_a.2 is_b.2 offsets in
    let count : d ≡ e = one_number d e is_a.3 is_b.3 counts in
    (cc, cc)

-- an operation within its limits can be spelled
pub spelled_from : (op : Op) → IsWithinLimits op → HasBytes op → IsSpelled op
spelled_from (Write name offset bytes) limits small = (limits.0, small.0, omega (arith, limits.2, limits.1), small.1)
spelled_from (Read name offset count) limits small = (limits.0, small, omega (arith, limits.1), omega (arith, limits.3))

pub all_spelled : (ops : List Op) → AllByRecursion IsWithinLimits ops → AllByRecursion HasBytes ops → AllByRecursion IsSpelled ops
all_spelled [] limits small = tt
all_spelled (op ∷ ops) limits small = (spelled_from op limits.0 small.0, all_spelled ops limits.1 small.1)

bytes_of : (op : Op) → IsSpelled op → HasBytes op
bytes_of (Write name offset bytes) is = (is.1, is.3)
bytes_of (Read name offset count) is = is.1

pub all_bytes : (ops : List Op) → AllByRecursion IsSpelled ops → AllByRecursion HasBytes ops
all_bytes [] is = tt
all_bytes (op ∷ ops) is = (bytes_of op is.0, all_bytes ops is.1)

-- an operation and the word `;` behind it
abbrev pub with_mark : Op → List (List ℕ)
with_mark op = op_words op ++ codes ";" ∷ []

-- what is left of operations behind those that were read
pub record OpsLeft (done all : List Op) (rest : List (List ℕ)) : Type 0 where
  pub tail : List Op
  pub some : 1 ≤ length tail
  pub spelled : AllByRecursion IsSpelled tail
  pub all_is : all ≡ done ++ tail
  pub rest_is : rest ≡ ops_words tail

regroup : (words others rest : List (List ℕ)) (mark : List ℕ) → ((words ++ mark ∷ []) ++ others) ++ rest ≡ words ++ mark ∷ (others ++ rest)
regroup words others rest mark = simp append_assoc

pub ops_left : (done all : List Op) (rest : List (List ℕ)) → 1 ≤ length all → AllByRecursion IsSpelled done → AllByRecursion IsSpelled all → ops_words all ≡ flat_map with_mark done ++ rest → OpsLeft done all rest
ops_left [] all rest some small_done small_all same = record { tail = all; some = some; spelled = small_all; all_is = refl; rest_is = sym same }
ops_left (d ∷ done) [] rest some small_done small_all same = absurd (omega arith)
ops_left (d ∷ done) (a ∷ []) rest some small_done small_all same =
    let whole : op_words a ++ [] ≡ op_words d ++ codes ";" ∷ (flat_map with_mark done ++ rest) = append-nil (op_words a) ∙ same ∙ regroup (op_words d) (flat_map with_mark done) rest (codes ";") in
    let parts = op_splits a d [] (codes ";" ∷ (flat_map with_mark done ++ rest)) small_all.0 small_done.0 whole in
    let none = parts.1 in cc
ops_left (d ∷ done) (a ∷ next ∷ all) rest some small_done small_all same =
    let whole : op_words a ++ codes ";" ∷ ops_words (next ∷ all) ≡ op_words d ++ codes ";" ∷ (flat_map with_mark done ++ rest) = same ∙ regroup (op_words d) (flat_map with_mark done) rest (codes ";") in
    let parts = op_splits a d (codes ";" ∷ ops_words (next ∷ all)) (codes ";" ∷ (flat_map with_mark done ++ rest)) small_all.0 small_done.0 whole in
    let behind = parts.1 in
    let others : ops_words (next ∷ all) ≡ flat_map with_mark done ++ rest = cc in
    let ih = ops_left done (next ∷ all) rest (omega arith) small_done.1 small_all.1 others in
    let head : a ≡ d = parts.0 in
    let tails : next ∷ all ≡ done ++ ih.tail = ih.all_is in
    record { tail = ih.tail; some = ih.some; spelled = ih.spelled; all_is = cc; rest_is = ih.rest_is }

-- operations begin with an operation, which is the last or has the word `;` behind it
pub record OpFirst (ops : List Op) : Type 0 where
  pub op : Op
  pub others : List (List ℕ)
  pub spelled : IsSpelled op
  pub words_are : ops_words ops ≡ op_words op ++ others
  pub next : (word : List ℕ) (behind : List (List ℕ)) → others ≡ word ∷ behind → word ≡ codes ";"

pub op_first : (ops : List Op) → 1 ≤ length ops → AllByRecursion IsSpelled ops → OpFirst ops
op_first [] some spelled = absurd (omega arith)
op_first (op ∷ []) some spelled = record {
  op = op;
  others = [];
  spelled = spelled.0;
  words_are = sym (append-nil (op_words op));
  next = λ word behind same. cc;
}
op_first (op ∷ next ∷ ops) some spelled = record {
  op = op;
  others = codes ";" ∷ ops_words (next ∷ ops);
  spelled = spelled.0;
  words_are = refl;
  next = λ word behind same. cc;
}

-- the words of operations, up to the last
pub ops_words_last : (done : List Op) (op : Op) → ops_words (done ++ op ∷ []) ≡ flat_map with_mark done ++ op_words op
ops_words_last [] op = refl
ops_words_last (a ∷ []) op = simp append_assoc
ops_words_last (a ∷ b ∷ done) op =
    let ih = ops_words_last (b ∷ done) op in
    ap (λ others. op_words a ++ codes ";" ∷ others) ih ∙ sym (regroup (op_words a) (flat_map with_mark (b ∷ done)) (op_words op) (codes ";"))

pub all_more : (ops : List Op) (op : Op) → AllByRecursion IsSpelled ops → IsSpelled op → AllByRecursion IsSpelled (ops ++ op ∷ [])
all_more [] op spelled this = (this, tt)
all_more (a ∷ ops) op spelled this = (spelled.0, all_more ops op spelled.1 this)

-- ---- reading operations

-- where no operation begins what is left, the whole is no operations
pub no_op : (start rest end : List (List ℕ)) (done : List Op) (fault : LineFault) → AllByRecursion IsSpelled done → start ≡ flat_map with_mark done ++ rest → Reads IsSpelled op_words rest end (Err fault) → Finds (AreOps start) (Err fault)
no_op start rest end done NoMemory spelled read fails = tt
no_op start rest end done (Why why) spelled read fails =
    λ ops is.
    let behind = ops_left done ops rest is.0 spelled is.1 (sym is.2 ∙ read) in
    let first = op_first behind.tail behind.some behind.spelled in
    fails first.op first.others first.spelled (behind.rest_is ∙ first.words_are)

-- another word than `;` behind an operation
pub no_mark : (start rest others : List (List ℕ)) (done : List Op) (op : Op) (word : List ℕ) → AllByRecursion IsSpelled done → start ≡ flat_map with_mark done ++ rest → IsSpelled op → rest ≡ op_words op ++ word ∷ others → (word ≡ codes ";" → ⊥) → (ops : List Op) → AreOps start ops → ⊥
no_mark start rest others done op word spelled read this same other ops is =
    let behind = ops_left done ops rest is.0 spelled is.1 (sym is.2 ∙ read) in
    let first = op_first behind.tail behind.some behind.spelled in
    let both : op_words first.op ++ first.others ≡ op_words op ++ word ∷ others = sym first.words_are ∙ sym behind.rest_is ∙ same in
    other (first.next word others (op_splits first.op op first.others (word ∷ others) first.spelled this both).1)

-- the last operation
pub whole_ops : (start rest : List (List ℕ)) (done : List Op) (op : Op) → AllByRecursion IsSpelled done → start ≡ flat_map with_mark done ++ rest → IsSpelled op → rest ≡ op_words op → AreOps start (done ++ op ∷ [])
whole_ops start rest done op spelled read this last =
    (omega (arith, length-append done (op ∷ [])), all_more done op spelled this, read ∙ ap (λ others. flat_map with_mark done ++ others) last ∙ sym (ops_words_last done op))

-- one more operation, with the word `;` behind it
pub op_more : (start rest others : List (List ℕ)) (done : List Op) (op : Op) (word : List ℕ) → start ≡ flat_map with_mark done ++ rest → rest ≡ op_words op ++ word ∷ others → word ≡ codes ";" → start ≡ flat_map with_mark (done ++ op ∷ []) ++ others
op_more start rest others done op word read same mark =
    read_more with_mark start done rest others op read (same ∙ ap (λ w. op_words op ++ w ∷ others) mark ∙ sym (append_assoc (op_words op) (codes ";" ∷ []) others))

-- ---- reading an operation

pub verb_first : (op : Op) (start rest : List (List ℕ)) → start ≡ op_words op ++ rest → (verb : Verb) × (others : List (List ℕ)) × Unit {0} × (start ≡ (verb_word verb ∷ []) ++ others)
verb_first (Write name offset bytes) start rest same = (WriteVerb, name_text name ∷ decimal offset ∷ data_text bytes ∷ rest, tt, same)
verb_first (Read name offset count) start rest same = (ReadVerb, name_text name ∷ decimal offset ∷ decimal count ∷ rest, tt, same)

pub write_data : (start l1 l2 l3 : List (List ℕ)) (name offset : List ℕ) → start ≡ codes "write" ∷ l1 → l1 ≡ name ∷ l2 → l2 ≡ offset ∷ l3 → (op : Op) (rest : List (List ℕ)) → IsSpelled op → start ≡ op_words op ++ rest → (v : List ℕ) × (others : List (List ℕ)) × AreBytes v × (l3 ≡ (data_text v ∷ []) ++ others)
write_data start l1 l2 l3 name offset first second third (Write n o bytes) rest is same = (bytes, rest, is.3, cc)
write_data start l1 l2 l3 name offset first second third (Read n o count) rest is same = let verbs : codes "write" ≡ codes "read" = cc in cc

pub read_count : (start l1 l2 l3 : List (List ℕ)) (name offset : List ℕ) → start ≡ codes "read" ∷ l1 → l1 ≡ name ∷ l2 → l2 ≡ offset ∷ l3 → (op : Op) (rest : List (List ℕ)) → IsSpelled op → start ≡ op_words op ++ rest → (v : ℕ) × (others : List (List ℕ)) × (v < 1000000000) × (l3 ≡ (decimal v ∷ []) ++ others)
read_count start l1 l2 l3 name offset first second third (Read n o count) rest is same = (count, rest, is.3, cc)
read_count start l1 l2 l3 name offset first second third (Write n o bytes) rest is same = let verbs : codes "read" ≡ codes "write" = cc in cc

-- ---- the word `;`

true_from_not : (b : Bool) → false ≡ not b → b ≡ true
true_from_not true test = refl
true_from_not false test = absurd (false≢true test)

false_from_not : (b : Bool) → true ≡ not b → b ≡ false
false_from_not true test = absurd (false≢true (sym test))
false_from_not false test = refl

pub same_bytes : (xs ys mark : List ℕ) → false ≡ not (bytes_eq xs ys) → ys ≡ mark → xs ≡ mark
same_bytes xs ys mark test is = (bytes_eq-Decides xs ys).0 (true_from_not (bytes_eq xs ys) test) ∙ is

pub other_bytes : (xs ys mark : List ℕ) → true ≡ not (bytes_eq xs ys) → ys ≡ mark → xs ≡ mark → ⊥
other_bytes xs ys mark test is same =
    false≢true (sym (false_from_not (bytes_eq xs ys) test) ∙ (bytes_eq-Decides xs ys).1 (same ∙ sym is))

-- ---- requests

-- the words of a line that asks
pub asks_words : (line : List ℕ) (asked : Asked) → Asks line asked → words line ≡ request_words asked.client asked.request
unfolding request_text
asks_words line asked asks =
    let first = asks.client in
    ap words asks.spelled ∙ words_joined (request_words asked.client asked.request) (omega arith) (number_word asked.client (omega arith), ops_are_words asked.request (all_spelled asked.request asks.request.each asks.bytes))

-- a line of these words
pub text_from_words : (line : List ℕ) (client : ℕ) (ops : List Op) → words line ≡ request_words client ops → line ≡ request_text client ops
unfolding request_text
text_from_words line client ops are = sym (join_with_byte-slice_split 32 line) ∙ ap (join_with_byte 32) are

-- operations are spelled in one way
pub one_ops : (a b : List Op) (start : List (List ℕ)) → AreOps start a → AreOps start b → a ≡ b
one_ops a b start is_a is_b = go a b is_a.0 is_b.0 is_a.1 is_b.1 (sym is_a.2 ∙ is_b.2)
  where
    go : (a b : List Op) → 1 ≤ length a → 1 ≤ length b → AllByRecursion IsSpelled a → AllByRecursion IsSpelled b → ops_words a ≡ ops_words b → a ≡ b
    go [] b some_a some_b all_a all_b same = absurd (omega arith)
    go (x ∷ xs) [] some_a some_b all_a all_b same = absurd (omega arith)
    go (x ∷ []) (y ∷ []) some_a some_b all_a all_b same =
        let one = (op_splits x y [] [] all_a.0 all_b.0 (append-nil (op_words x) ∙ same ∙ sym (append-nil (op_words y)))).0 in ap (λ op. op ∷ []) one
    go (x ∷ []) (y ∷ z ∷ ys) some_a some_b all_a all_b same =
        let none = (op_splits x y [] (codes ";" ∷ ops_words (z ∷ ys)) all_a.0 all_b.0 (append-nil (op_words x) ∙ same)).1 in cc
    go (x ∷ w ∷ xs) (y ∷ []) some_a some_b all_a all_b same =
        let none = (op_splits x y (codes ";" ∷ ops_words (w ∷ xs)) [] all_a.0 all_b.0 (same ∙ sym (append-nil (op_words y)))).1 in cc
    go (x ∷ w ∷ xs) (y ∷ z ∷ ys) some_a some_b all_a all_b same =
        let parts = op_splits x y (codes ";" ∷ ops_words (w ∷ xs)) (codes ";" ∷ ops_words (z ∷ ys)) all_a.0 all_b.0 same in
        let behind = parts.1 in
        let others : ops_words (w ∷ xs) ≡ ops_words (z ∷ ys) = cc in
        let head : x ≡ y = parts.0 in
        let tails : w ∷ xs ≡ z ∷ ys = go (w ∷ xs) (z ∷ ys) (omega arith) (omega arith) all_a.1 all_b.1 others in
        cc

-- what a line that asks begins with, and what is left of it
pub asks_client : (line : List ℕ) (client : ℕ) (rest : List (List ℕ)) (asked : Asked) → client < 1000000000 → words line ≡ decimal client ∷ rest → Asks line asked → (client ≡ 1) × AreOps rest asked.request
asks_client line client rest asked small begins asks =
    let spelled = asks_words line asked asks in
    let first = asks.client in
    let numbers : decimal client ≡ decimal asked.client = cc in
    let is : client ≡ asked.client = one_number client asked.client small (omega arith) numbers in
    (is ∙ first, (asks.request.some, all_spelled asked.request asks.request.each asks.bytes, cc))

-- what a line begins with that asks
pub asks_number : (line : List ℕ) (asked : Asked) → Asks line asked → (n : ℕ) × (others : List (List ℕ)) × (n < 1000000000) × (words line ≡ (decimal n ∷ []) ++ others)
asks_number line asked asks = let first = asks.client in (asked.client, ops_words asked.request, omega arith, asks_words line asked asks)

-- a fault stays where what is asked for asks for what is not found
pub finds_later : {V W : Type 0} (Is : V → Type 0) (Has : W → Type 0) (fault : LineFault) → Finds Is (Err fault) → ((w : W) → Has w → (v : V) × Is v) → Finds Has (Err fault)
finds_later Is Has NoMemory found step = tt
finds_later Is Has (Why why) found step = λ w has. let v = step w has in found v.0 v.1

pub reads_none : {V W : Type 0} (Is : V → Type 0) (spelled : V → List (List ℕ)) (old new : List (List ℕ)) (Has : W → Type 0) (fault : LineFault) → Reads Is spelled old new (Err fault) → ((w : W) → Has w → (v : V) × (others : List (List ℕ)) × Is v × (old ≡ spelled v ++ others)) → Finds Has (Err fault)
reads_none Is spelled old new Has NoMemory read step = tt
reads_none Is spelled old new Has (Why why) read step = λ w has. let found = step w has in read found.0 found.1 found.2 found.3

all_at : {X : Type 0} (P : X → Type 0) (xs : List X) (i : ℕ) (x : X) → AllByRecursion P xs → slice_get xs i ≡ Some x → P x
all_at P [] i x all here = cc
all_at P (y ∷ ys) zero x all here = let same : y ≡ x = cc in subst P same all.0
all_at P (y ∷ ys) (suc i) x all here = all_at P ys i x all.1 here

-- operations that are refused are no request
pub refused_not : (ops : List Op) (fault : RequestFault) → Refuses ops fault → IsRequest ops → ⊥
refused_not ops Empty refuses is = let none : length ops ≡ 0 = ap length refuses in omega (arith, none, is.some)
refused_not ops TooManyOps refuses is = omega (arith, refuses, is.few)
refused_not ops (BadRange number) refuses is =
    let beyond = refuses.1.beyond in beyond.2 (all_at IsWithinLimits ops (number - 1) beyond.0 is.each beyond.1)
refused_not ops TooManyBlocks refuses is = omega (arith, refuses.2, is.blocks)
refused_not ops TooManyKeys refuses is = omega (arith, refuses.3, is.keys)

pub asks_from : (line : List ℕ) (client : ℕ) (rest : List (List ℕ)) (ops request : List Op) → client ≡ 1 → words line ≡ decimal client ∷ rest → AreOps rest ops → request ≡ ops → IsRequest request → Asks line (record { client = client; request = request })
asks_from line client rest ops request first begins are same is = record {
  client = first;
  request = is;
  bytes = subst (AllByRecursion HasBytes) (sym same) (all_bytes ops are.1);
  spelled = text_from_words line client request (begins ∙ ap (λ others. decimal client ∷ others) (are.2 ∙ ap ops_words (sym same)));
}
