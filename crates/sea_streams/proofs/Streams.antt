-- One take, and one put, after others.
use Rattle.std.proofs.Common.{◌≡◌, ◌⊎◌, inl, inr, ℕ, ◌+◌, ◌<◌, ◌≤◌, Bool, List, [], ◌∷◌, ◌++◌, take, drop, length, Option, Some, None, refl, sym, ap, subst, ◌∙◌, append_assoc, arith, length-append}
use Rattle.std.proofs.lemmas.List.{append-nil, take_all, take_more, flat_map_more}
use Rattle.std.proofs.lemmas.Bool.{cases_lt}
use Rattle.std.proofs.lemmas.List.{take-append-drop}
use Rattle.std.proofs.lemmas.Grind.{flat_map-append}
use Rattle.std.specs.List.{flat_map}
use Rattle.std.proofs.Math.ListN.{get_or}
use Rattle.std.specs.Prelude.{Result, Ok, Err, OnErr}
use Rattle.sea_history.specs.declared.history.Entry.{Entry}
use Rattle.sea_script.specs.Render.{entry_line, end_line}
use Rattle.std.specs.Option.{option_map}
use Rattle.std.specs.Prelude.{IfSome}
use Rattle.sea_device.specs.Stream.{Hands}
use Rattle.sea_script.specs.declared.script.Script.{Script}
use Rattle.sea_script.specs.declared.script.ScriptWhy.{ScriptWhy}
use Rattle.sea_script.specs.declared.script.ScriptFault.TheVariants.{NoMemory, Refused}
use Rattle.sea_script.specs.declared.script.ScriptFault.{ScriptFault}
use Rattle.sea_script.specs.Script.{IsScript, IsRefusal}
use Rattle.sea_streams.specs.Streams.{Leaves, IsReadOut, IsScriptOf, IsNoScript, read_fault, Grows, PutsOut, TakesFront, run_text}

pub none_taken : (old : Option (List ℕ)) → Leaves [] old old
none_taken None = tt
none_taken (Some left) = refl

pub more_taken : (bytes into : List ℕ) (n : ℕ) (old left new : Option (List ℕ)) → Leaves bytes old left → Hands n into left new → Leaves (bytes ++ take n into) old new
more_taken bytes into n None None None taken hands = tt
more_taken bytes into n None None (Some new) taken hands = absurd hands
more_taken bytes into n None (Some left) new taken hands = absurd taken
more_taken bytes into n (Some old) None new taken hands = absurd taken
more_taken bytes into n (Some old) (Some left) None taken hands = absurd hands
more_taken bytes into n (Some old) (Some left) (Some new) taken hands =
    taken ∙ ap (λ (r : List ℕ). bytes ++ r) hands.0 ∙ sym (append_assoc bytes (take n into) new)

-- nothing is taken at the end alone
pub at_end : (bytes into : List ℕ) (old left new : Option (List ℕ)) → Leaves bytes old left → Hands 0 into left new → IfSome new (λ rest. rest ≡ [])
at_end bytes into None None None taken hands = tt
at_end bytes into None None (Some new) taken hands = absurd hands
at_end bytes into None (Some left) new taken hands = absurd taken
at_end bytes into (Some old) None new taken hands = absurd taken
at_end bytes into (Some old) (Some left) None taken hands = absurd hands
at_end bytes into (Some old) (Some left) (Some new) taken hands = sym hands.0 ∙ hands.1 refl

pub none_put : (old : Option (List ℕ)) → old ≡ option_map (λ taken. taken ++ []) old
none_put None = refl
none_put (Some taken) = ap (λ (t : List ℕ). Some t) (whole taken)
  where
    whole : (xs : List ℕ) → xs ≡ xs ++ []
    whole [] = refl
    whole (x ∷ xs) = ap (λ (r : List ℕ). x ∷ r) (whole xs)

pub more_put : (front part : List ℕ) (old mid new : Option (List ℕ)) → mid ≡ option_map (λ taken. taken ++ front) old → new ≡ option_map (λ taken. taken ++ part) mid → new ≡ option_map (λ taken. taken ++ (front ++ part)) old
more_put front part old mid new before now =
    now ∙ ap (option_map (λ taken. taken ++ part)) before ∙ both old
  where
    both : (old : Option (List ℕ)) → option_map (λ taken. taken ++ part) (option_map (λ taken. taken ++ front) old) ≡ option_map (λ taken. taken ++ (front ++ part)) old
    both None = refl
    both (Some taken) = ap (λ (t : List ℕ). Some t) (append_assoc taken front part)

-- ---- what was read out

-- It is the whole input, or longer than an input may be, as the input is then.
read_out : (bytes input : List ℕ) (unread : Option (List ℕ)) → IsReadOut bytes (Some input) unread → ((input ≡ bytes) × (unread ≡ Some [])) ⊎ ((67108864 < length bytes) × (67108864 < length input))
read_out bytes input None read = absurd read.taken
read_out bytes input (Some left) read =
    elim (cases_lt (length bytes) 67108865) [
      | inl short ↦ inl (read.taken ∙ ap (λ (r : List ℕ). bytes ++ r) (read.whole short) ∙ append-nil bytes, ap (λ (r : List ℕ). Some r) (read.whole short))
      | inr long ↦ inr (omega arith, omega (arith, ap length read.taken, length-append bytes left))
    ]

pub script_of : (scheduled : Bool) (bytes : List ℕ) (input unread : Option (List ℕ)) (script : Script) → IsReadOut bytes input unread → IsScript scheduled bytes script → IsScriptOf scheduled input unread script
script_of scheduled bytes None unread script read is = tt
script_of scheduled bytes (Some input) unread script read is = elim (read_out bytes input unread read) [
  | inl whole ↦ (subst (λ (b : List ℕ). IsScript scheduled b script) (sym whole.0) is, whole.1)
  | inr long ↦ let short : length bytes ≤ 67108864 = is.short in absurd (omega (arith, long.0, short))
]

-- an input that spells a script was read whole
pub read_whole : (scheduled : Bool) (bytes input : List ℕ) (unread : Option (List ℕ)) (script : Script) → IsReadOut bytes (Some input) unread → IsScript scheduled input script → IsScript scheduled bytes script
read_whole scheduled bytes input unread script read is = elim (read_out bytes input unread read) [
  | inl whole ↦ subst (λ (b : List ℕ). IsScript scheduled b script) whole.0 is
  | inr long ↦ let short : length input ≤ 67108864 = is.short in absurd (omega (arith, long.1, short))
]

pub no_script : (scheduled : Bool) (bytes : List ℕ) (input unread : Option (List ℕ)) (line : ℕ) (why : ScriptWhy) → IsReadOut bytes input unread → IsRefusal scheduled bytes (Refused line why) → IfSome input (λ text. IsRefusal scheduled text (Refused line why))
no_script scheduled bytes None unread line why read refused = tt
no_script scheduled bytes (Some input) unread line why read refused = elim (read_out bytes input unread read) [
  | inl whole ↦ subst (λ (b : List ℕ). IsRefusal scheduled b (Refused line why)) (sym whole.0) refused
  | inr long ↦ elim refused [
    | inl too_long ↦ inl (too_long.0, too_long.1, long.1)
    | inr short ↦ absurd (omega (arith, long.0, short.0))
  ]
]

pub no_script_for : (scheduled : Bool) (bytes : List ℕ) (input unread : Option (List ℕ)) (fault : ScriptFault) (before now : ℕ) → IsReadOut bytes input unread → IsRefusal scheduled bytes fault → IsNoScript scheduled input before now (read_fault fault)
no_script_for scheduled bytes input unread NoMemory before now read refused = tt
no_script_for scheduled bytes input unread (Refused line why) before now read refused = no_script scheduled bytes input unread line why read refused

-- ---- what was put out

-- What is in hand was put out in part behind the front, and the rest of the text is still to come.
pub front_of : (front whole rest text : List ℕ) (old mid new : Option (List ℕ)) → text ≡ front ++ (whole ++ rest) → Grows front old mid → TakesFront whole mid new → TakesFront text old new
front_of front whole rest text old mid new all before takes = record {
  front = front ++ takes.front;
  back = takes.back ++ rest;
  parts = all ∙ ap (λ (w : List ℕ). front ++ (w ++ rest)) takes.parts ∙ ap (λ (r : List ℕ). front ++ r) (append_assoc takes.front takes.back rest) ∙ sym (append_assoc front takes.front (takes.back ++ rest));
  taken = more_put front takes.front old mid new before takes.taken;
}

-- what was put out until now is a front of the text
pub front_before : (front rest text : List ℕ) (old new : Option (List ℕ)) → text ≡ front ++ rest → Grows front old new → TakesFront text old new
front_before front rest text old new all before = record { front = front; back = rest; parts = all; taken = before }

pub on_err : {T E P : Type 0} (r : Result T E) → P → OnErr r P
on_err (Ok x) p = tt
on_err (Err e) p = p

-- what is left of a run's text behind the lines of so many entries
abbrev pub rest_of : ℕ → List Entry → ℕ → List ℕ → List ℕ
rest_of k entries sent_back last = flat_map entry_line (drop k entries) ++ (end_line (length entries) sent_back ++ last)

pub whole_text : (k : ℕ) (entries : List Entry) (sent_back : ℕ) (last front text : List ℕ) → flat_map entry_line (take k entries) ≡ front ++ text → run_text entries sent_back last ≡ front ++ (text ++ rest_of k entries sent_back last)
whole_text k entries sent_back last front text lines =
    let lines_of = flat_map entry_line in
    let closing = end_line (length entries) sent_back in
    let later = lines_of (drop k entries) in
    let split : lines_of entries ≡ (front ++ text) ++ later = ap lines_of (sym (take-append-drop k entries)) ∙ flat_map-append entry_line (take k entries) (drop k entries) ∙ ap (λ (l : List ℕ). l ++ later) lines in
    ap (λ (l : List ℕ). (l ++ closing) ++ last) split
    ∙ append_assoc ((front ++ text) ++ later) closing last
    ∙ append_assoc (front ++ text) later (closing ++ last)
    ∙ append_assoc front text (later ++ (closing ++ last))

-- one entry's line more
pub pushed : (k : ℕ) (entries : List Entry) (entry : Entry) (front text new : List ℕ) → k < length entries → entry ≡ get_or entries k entry → flat_map entry_line (take k entries) ≡ front ++ text → new ≡ text ++ entry_line entry → flat_map entry_line (take (k + 1) entries) ≡ front ++ new
pushed k entries entry front text new within is lines more =
    ap (flat_map entry_line) (take_more entries k entry within)
    ∙ ap (λ (e : Entry). flat_map entry_line (take k entries ++ e ∷ [])) (sym is)
    ∙ sym (flat_map_more entry_line [] (take k entries) entry)
    ∙ ap (λ (l : List ℕ). l ++ entry_line entry) lines
    ∙ append_assoc front text (entry_line entry)
    ∙ ap (λ (t : List ℕ). front ++ t) (sym more)

-- behind the last entry the closing line stands, and the last one
pub closed : (k : ℕ) (entries : List Entry) (sent_back : ℕ) (last front text ended new : List ℕ) → length entries ≤ k → flat_map entry_line (take k entries) ≡ front ++ text → ended ≡ text ++ end_line (length entries) sent_back → new ≡ ended ++ last → run_text entries sent_back last ≡ front ++ (new ++ [])
closed k entries sent_back last front text ended new all lines end more =
    let closing = end_line (length entries) sent_back in
    ap (λ (es : List Entry). (flat_map entry_line es ++ closing) ++ last) (sym (take_all k entries all))
    ∙ ap (λ (l : List ℕ). (l ++ closing) ++ last) lines
    ∙ ap (λ (l : List ℕ). l ++ last) (append_assoc front text closing)
    ∙ ap (λ (e : List ℕ). (front ++ e) ++ last) (sym end)
    ∙ append_assoc front ended last
    ∙ ap (λ (t : List ℕ). front ++ t) (sym more ∙ sym (append-nil new))
