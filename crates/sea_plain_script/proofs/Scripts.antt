-- An input is a script of one plan, or has one first line of another form.
use Rattle.std.proofs.Common.{◌≡◌, ◌==◌, ◌⊎◌, inl, inr, ℕ, zero, suc, ◌+◌, ◌-◌, ◌≤◌, List, [], ◌∷◌, ◌++◌, length, take, drop, Some, Ok, Err, add-one, refl, sym, ap, subst, ◌∙◌, arith}
use Rattle.std.specs.Prelude.{slice_get}
use Rattle.std.specs.List.{slice_split, onto_first}
use Rattle.std.specs.Fmt.{decimal}
use Rattle.std.proofs.lemmas.Fmt.{decimal_digit}
use Rattle.std.proofs.lemmas.List.Splits.{length-slice_split, slice_split-cons_no}
use Rattle.std.proofs.lemmas.List.{length-append}
use Rattle.std.proofs.lemmas.List.Sums.{count_by-le-length}
use Rattle.std.proofs.lemmas.Grind.{common_steps}
use Rattle.sea_plain.specs.declared.op.Op.{Op}
use Rattle.sea_plain_script.specs.declared.plan.Asked.{Asked}
use Rattle.sea_plain_script.specs.ScriptReading.{AddsLine, fault_at, words}
use Rattle.sea_plain_script.specs.declared.script.ScriptFault.{ScriptFault}
use Rattle.sea_plain_script.specs.declared.script.ScriptFault.TheVariants.{NoMemory as NoMemoryAt, Refused}
use Rattle.sea_plain_script.specs.declared.script.ScriptWhy.TheVariants.{NotBuilt}
use Rattle.sea_plain_script.specs.declared.script.fault.LineFault.{LineFault}
use Rattle.sea_plain_script.specs.declared.script.fault.LineFault.TheVariants.{NoMemory, Why}
use Rattle.sea_plain_script.specs.Script.{Ask, Asks, IsBlank, IsFirstOther, IsRefusal, IsScript, lines, ops_words}
use Rattle.sea_plain_script.proofs.Requests.{one_ops, asks_client, asks_words}

-- ---- one line

-- a line that asks begins with the digit 1
digit_first : (x : ℕ) (parts others : List (List ℕ)) → onto_first x parts ≡ (49 ∷ []) ∷ others → x ≡ 49
digit_first x [] others same = cc
digit_first x (part ∷ parts) others same = cc

client_text : (line : List ℕ) (asked : Asked) → Asks line asked → words line ≡ (49 ∷ []) ∷ ops_words asked.request
client_text line asked asks =
    asks_words line asked asks ∙ ap (λ client. decimal client ∷ ops_words asked.request) asks.client ∙ ap (λ text. text ∷ ops_words asked.request) (decimal_digit 1 (omega arith))

pub blank_asks_not : (line : List ℕ) (asked : Asked) → IsBlank line → Asks line asked → ⊥
blank_asks_not [] asked blank asks = let begins = client_text [] asked asks in cc
blank_asks_not (b ∷ line) asked blank asks =
    let cut = slice_split-cons_no (λ c. c == 32) b line (ap (λ c. c == 32) blank) in
    let digit = digit_first b (slice_split (λ c. c == 32) line) (ops_words asked.request) (sym cut ∙ client_text (b ∷ line) asked asks) in
    omega (arith, blank, digit)

abbrev made : ℕ → List Op → Asked
made client request = record { client = client; request = request }

same_asked : (m n : ℕ) (p q : List Op) → m ≡ n → p ≡ q → made m p ≡ made n q
same_asked m n p q numbers requests = ap (λ k. made k p) numbers ∙ ap (made n) requests

-- a line asks for one request
pub one_asked : (line : List ℕ) (a b : Asked) → Asks line a → Asks line b → a ≡ b
one_asked line a b asks_a asks_b =
    let first : a.client ≡ 1 = asks_a.client in
    let are = asks_client line a.client (ops_words a.request) b (omega (arith, first)) (asks_words line a asks_a) asks_b in
    let own = asks_client line a.client (ops_words a.request) a (omega (arith, first)) (asks_words line a asks_a) asks_a in
    let requests : a.request ≡ b.request = one_ops a.request b.request (ops_words a.request) own.1 are.1 in
    let clients : a.client ≡ b.client = first ∙ sym asks_b.client in
    same_asked a.client b.client a.request b.request clients requests

-- ---- lines

pub ask_blank : (ls : List (List ℕ)) (plan : List Asked) (line : List ℕ) → Ask ls plan → IsBlank line → Ask (ls ++ line ∷ []) plan
ask_blank [] [] line ask blank = (blank, refl)
ask_blank [] (a ∷ plan) line ask blank = cc
ask_blank (l ∷ ls) [] line ask blank = (ask.0, ask_blank ls [] line ask.1 blank)
ask_blank (l ∷ ls) (a ∷ plan) line (inl here) blank = inl (here.0, ask_blank ls (a ∷ plan) line here.1 blank)
ask_blank (l ∷ ls) (a ∷ plan) line (inr here) blank = inr (here.0, ask_blank ls plan line here.1 blank)

pub ask_asked : (ls : List (List ℕ)) (plan : List Asked) (line : List ℕ) (asked : Asked) → Ask ls plan → Asks line asked → Ask (ls ++ line ∷ []) (plan ++ asked ∷ [])
ask_asked [] [] line asked ask asks = inr (asks, refl)
ask_asked [] (a ∷ plan) line asked ask asks = cc
ask_asked (l ∷ ls) [] line asked ask asks = inl (ask.0, ask_asked ls [] line asked ask.1 asks)
ask_asked (l ∷ ls) (a ∷ plan) line asked (inl here) asks = inl (here.0, ask_asked ls (a ∷ plan) line asked here.1 asks)
ask_asked (l ∷ ls) (a ∷ plan) line asked (inr here) asks = inr (here.0, ask_asked ls plan line asked here.1 asks)

-- lines ask for one plan
pub one_plan : (ls : List (List ℕ)) (p q : List Asked) → Ask ls p → Ask ls q → p ≡ q
one_plan [] p q is_p is_q = is_p ∙ sym is_q
one_plan (l ∷ ls) [] [] is_p is_q = refl
one_plan (l ∷ ls) [] (b ∷ q) is_p (inl here) = one_plan ls [] (b ∷ q) is_p.1 here.1
one_plan (l ∷ ls) [] (b ∷ q) is_p (inr here) = absurd (blank_asks_not l b is_p.0 here.0)
one_plan (l ∷ ls) (a ∷ p) [] (inl here) is_q = one_plan ls (a ∷ p) [] here.1 is_q.1
one_plan (l ∷ ls) (a ∷ p) [] (inr here) is_q = absurd (blank_asks_not l a is_q.0 here.0)
one_plan (l ∷ ls) (a ∷ p) (b ∷ q) (inl here) (inl there) = one_plan ls (a ∷ p) (b ∷ q) here.1 there.1
one_plan (l ∷ ls) (a ∷ p) (b ∷ q) (inl here) (inr there) = absurd (blank_asks_not l b here.0 there.0)
one_plan (l ∷ ls) (a ∷ p) (b ∷ q) (inr here) (inl there) = absurd (blank_asks_not l a there.0 here.0)
one_plan (l ∷ ls) (a ∷ p) (b ∷ q) (inr here) (inr there) =
    let head : a ≡ b = one_asked l a b here.0 there.0 in
    let tails : p ≡ q = one_plan ls p q here.1 there.1 in
    cc

blank_first : (l : List ℕ) (ls : List (List ℕ)) (plan : List Asked) → IsBlank l → Ask ls plan → Ask (l ∷ ls) plan
blank_first l ls [] blank ask = (blank, ask)
blank_first l ls (a ∷ plan) blank ask = inl (blank, ask)

-- a line among lines that ask for a plan is blank, or asks for a request behind those of the lines before it
record LineOf (ls : List (List ℕ)) (plan : List Asked) (i : ℕ) (line : List ℕ) : Type 0 where
  front : List Asked
  asked : Ask (take i ls) front
  asks : IsBlank line ⊎ ((a : Asked) × Asks line a × (length front + 1 ≤ length plan))

line_of : (ls : List (List ℕ)) (plan : List Asked) (i : ℕ) (line : List ℕ) → Ask ls plan → slice_get ls i ≡ Some line → LineOf ls plan i line
line_of [] plan i line ask here = cc
line_of (l ∷ ls) [] zero line ask here =
    let same : l ≡ line = cc in
    record { front = []; asked = refl; asks = inl (subst IsBlank same ask.0) }
line_of (l ∷ ls) (a ∷ plan) zero line (inl is) here =
    let same : l ≡ line = cc in
    record { front = []; asked = refl; asks = inl (subst IsBlank same is.0) }
line_of (l ∷ ls) (a ∷ plan) zero line (inr is) here =
    let same : l ≡ line = cc in
    record { front = []; asked = refl; asks = inr (a, subst (λ l. Asks l a) same is.0, omega arith) }
line_of (l ∷ ls) [] (suc i) line ask here =
    let others = line_of ls [] i line ask.1 here in
    record { front = others.front; asked = blank_first l (take i ls) others.front ask.0 others.asked; asks = others.asks }
line_of (l ∷ ls) (a ∷ plan) (suc i) line (inl is) here =
    let others = line_of ls (a ∷ plan) i line is.1 here in
    record { front = others.front; asked = blank_first l (take i ls) others.front is.0 others.asked; asks = others.asks }
line_of (l ∷ ls) (a ∷ plan) (suc i) line (inr is) here =
    let others = line_of ls plan i line is.1 here in
    record {
      front = a ∷ others.front;
      asked = inr (is.0, others.asked);
      asks = elim others.asks [ inl blank ↦ inl blank | inr more ↦ inr (more.0, more.1, omega (arith, more.2)) ];
    }

-- an input with a line of another form is no script
pub other_no_script : (input : List ℕ) (number : ℕ) (plan : List Asked) → IsFirstOther input number → IsScript input plan → ⊥
other_no_script input number plan other script =
    let of = line_of (lines input) plan (number - 1) other.line script.asked other.here in
    let same : of.front ≡ other.before = one_plan (take (number - 1) (lines input)) of.front other.before of.asked other.asked in
    elim of.asks [
      | inl blank ↦ other.not_blank blank
      | inr more ↦ let room = other.asks_not more.0 more.1 in let long = ap length same in omega (arith, room, long, more.2, script.few)
    ]

-- ---- reading line by line

-- there is one line more than ends of lines
pub lines_few : (input : List ℕ) → length (lines input) ≤ length input + 1
lines_few input = omega (arith, length-slice_split (λ b. b == 10) input, count_by-le-length (λ b. b == 10) input)

-- the line behind those that were read
record LineAt (ls : List (List ℕ)) (n : ℕ) (line : List ℕ) (rest : List (List ℕ)) : Type 0 where
  here : slice_get ls n ≡ Some line
  taken : take (suc n) ls ≡ take n ls ++ line ∷ []
  rest_is : rest ≡ drop (suc n) ls

line_at : (ls : List (List ℕ)) (n : ℕ) (line : List ℕ) (rest : List (List ℕ)) → drop n ls ≡ line ∷ rest → LineAt ls n line rest
line_at [] zero line rest same = cc
line_at [] (suc n) line rest same = cc
line_at (l ∷ ls) zero line rest same =
    let head : l ≡ line = cc in
    let tails : ls ≡ rest = cc in
    record { here = ap Some head; taken = ap (λ x. x ∷ []) head; rest_is = sym tails }
line_at (l ∷ ls) (suc n) line rest same =
    let others = line_at ls n line rest same in
    record { here = others.here; taken = ap (λ xs. l ∷ xs) others.taken; rest_is = others.rest_is }

-- what the plan is behind one more line
pub next_line : (ls : List (List ℕ)) (n : ℕ) (line : List ℕ) (rest : List (List ℕ)) (old new : List Asked) (done : Unit {0}) → drop n ls ≡ line ∷ rest → Ask (take n ls) old → length old ≤ 10000 → AddsLine line old new (Ok done) → (rest ≡ drop (n + 1) ls) × Ask (take (n + 1) ls) new × (length new ≤ 10000)
next_line ls n line rest old new done same ask few adds =
    let at = line_at ls n line rest same in
    rw add-one
    (elim adds [
      | inl is ↦ (at.rest_is, rw (at.taken, is.1) (ask_blank (take n ls) old line ask is.0), omega (arith, ap length is.1, few))
      | inr is ↦ (at.rest_is, rw (at.taken, is.3) (ask_asked (take n ls) old line is.0 ask is.1), omega (arith, ap length is.3, length-append old (is.0 ∷ []), is.2))
    ])

-- a line's fault is one of the input
pub fault_of_line : (input : List ℕ) (n : ℕ) (line : List ℕ) (rest : List (List ℕ)) (plan new : List Asked) (fault : LineFault) → length input ≤ 67108864 → drop n (lines input) ≡ line ∷ rest → Ask (take n (lines input)) plan → length plan ≤ 10000 → AddsLine line plan new (Err fault) → IsRefusal input (fault_at (n + 1) fault)
fault_of_line input n line rest plan new NoMemory short same ask few adds = tt
fault_of_line input n line rest plan new (Why NotBuilt) short same ask few adds =
    let at = line_at (lines input) n line rest same in
    let back : n + 1 - 1 ≡ n = omega arith in
    inr (
      short,
      record {
        counted = omega arith;
        before = plan;
        asked = rw back ask;
        few = few;
        line = line;
        here = rw back at.here;
        not_blank = adds.0;
        asks_not = adds.1;
      },
    )

-- a script is not refused
pub only_memory : (input : List ℕ) (fault : ScriptFault) → IsRefusal input fault → (plan : List Asked) → IsScript input plan → fault ≡ NoMemoryAt
only_memory input NoMemoryAt refusal plan script = refl
only_memory input (Refused number NotBuilt) refusal plan script =
    elim refusal [
      | inl long ↦ absurd (omega (arith, long.1, script.short))
      | inr other ↦ absurd (other_no_script input number plan other.1 script)
    ]

-- all lines were read
pub all_read : (ls : List (List ℕ)) (n : ℕ) (plan other : List Asked) → n ≡ length ls → Ask (take n ls) plan → Ask ls other → plan ≡ other
all_read ls n plan other all ask is =
    let whole : take n ls ≡ ls = grind (arith, common_steps) in
    one_plan ls plan other (subst (λ xs. Ask xs plan) whole ask) is
