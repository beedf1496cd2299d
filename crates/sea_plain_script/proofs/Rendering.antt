-- Different histories print different lines.
use Rattle.std.proofs.Common.{◌≡◌, ℕ, ◌^◌, ◌<◌, ◌≤◌, List, [], ◌∷◌, ◌++◌, length, drop, get_or, refl, sym, ap, ◌∙◌, arith, append_assoc, length-append, codes}
use Rattle.std.specs.List.{AllByRecursion, flat_map}
use Rattle.std.specs.Fmt.{decimal}
use Rattle.std.proofs.lemmas.Fmt.{decimal_injective, decimal_is_IsNumeral}
use Rattle.std.proofs.lemmas.List.Elements.{All-from_get_or, All-head, All-tail}
use Rattle.std.proofs.lemmas.Str.Parse.{digit_at}
use Rattle.sea_plain.specs.declared.reply.Item.{Item}
use Rattle.sea_plain.specs.declared.reply.Item.TheVariants.{Unit as Done_item, Absent, Bytes}
use Rattle.sea_plain.specs.declared.reply.Reply.{Reply}
use Rattle.sea_plain.specs.declared.reply.Reply.TheVariants.{Done, Full}
use Rattle.sea_plain_script.specs.declared.history.Entry.{Entry}
use Rattle.sea_plain_script.specs.Script.{AreBytes, data_text}
use Rattle.sea_plain_script.specs.Render.{item_text, items_text, reply_text, entry_line}
use Rattle.sea_plain_script.proofs.Spelling.{one_data}
use Rattle.sea_plain_script.proofs.Words.{IsWord, data_word, word_from_test}

-- ---- what every value of these types has

abbrev pub IsItem : Item → Type 0
IsItem Done_item = Unit {0}
IsItem Absent = Unit {0}
IsItem (Bytes bytes) = AreBytes bytes

abbrev pub IsReplyValue : Reply → Type 0
IsReplyValue (Done items) = AllByRecursion IsItem items
IsReplyValue (Full need rest empty) = (need < 2 ^ 32) × (rest < 2 ^ 32) × (empty < 2 ^ 32)

pub record IsEntry (entry : Entry) : Type 0 where
  pub client : entry.client < 2 ^ 32
  pub number : entry.number < 2 ^ 32
  pub reply : IsReplyValue entry.reply

-- ---- words

-- the first byte, or 33 where there is none
abbrev first : List ℕ → ℕ
first text = get_or text 0 33

-- a word ends at the first byte that no word has
cut : (x y r q : List ℕ) → IsWord x → IsWord y → first r < 33 → first q < 33 → x ++ r ≡ y ++ q → (x ≡ y) × (r ≡ q)
cut [] [] r q word_x word_y stops_r stops_q same = (refl, same)
cut [] (b ∷ y) r q word_x word_y stops_r stops_q same = absurd (omega (arith, ap first same, All-head (λ b. 33 ≤ b) b y word_y))
cut (a ∷ x) [] r q word_x word_y stops_r stops_q same = absurd (omega (arith, ap first same, All-head (λ b. 33 ≤ b) a x word_x))
cut (a ∷ x) (b ∷ y) r q word_x word_y stops_r stops_q same =
    let head : a ≡ b = cc in
    let parts = cut x y r q (All-tail (λ b. 33 ≤ b) a x word_x) (All-tail (λ b. 33 ≤ b) b y word_y) stops_r stops_q (ap (drop 1) same) in
    (cc, parts.1)

-- a number is a word, so it ends there too
number_word : (n : ℕ) → n < 2 ^ 32 → IsWord (decimal n)
number_word n small =
    All-from_get_or (λ b. 33 ≤ b) (decimal n) 0 (λ i within. let digit = digit_at (decimal n) i (decimal_is_IsNumeral n (omega arith)).0.1 within in omega (arith, digit.0))

number_tells : (m n s : ℕ) (r q : List ℕ) → m < 2 ^ 32 → n < 2 ^ 32 → s < 33 → decimal m ++ s ∷ r ≡ decimal n ++ s ∷ q → (m ≡ n) × (r ≡ q)
number_tells m n s r q small_m small_n stops same =
    let parts = cut (decimal m) (decimal n) (s ∷ r) (s ∷ q) (number_word m small_m) (number_word n small_n) stops stops same in
    (decimal_injective m n (omega arith) (omega arith) parts.0, ap (drop 1) parts.1)

-- ---- items

item_word : (item : Item) → IsItem item → IsWord (item_text item)
unfolding item_text
item_word Done_item is = word_from_test (codes "-") refl
item_word Absent is = word_from_test (codes "none") refl
item_word (Bytes bytes) is = data_word bytes is

one_item : (a b : Item) → IsItem a → IsItem b → item_text a ≡ item_text b → a ≡ b
unfolding item_text data_text
one_item Done_item Done_item is_a is_b same = refl
one_item Absent Absent is_a is_b same = refl
one_item (Bytes x) (Bytes y) is_a is_b same = ap Bytes (one_data (data_text x) x y is_a is_b refl same)
one_item a b is_a is_b same = absurd (omega (arith, ap first same))

-- a space or the end of the line comes next
items_stop : (items : List Item) (u : List ℕ) → first (items_text items ++ 10 ∷ u) < 33
unfolding items_text
items_stop [] u = omega arith
items_stop (item ∷ items) u = omega arith

-- items are followed by the end of the line in one way
items_tell : (xs ys : List Item) (u v : List ℕ) → AllByRecursion IsItem xs → AllByRecursion IsItem ys → items_text xs ++ 10 ∷ u ≡ items_text ys ++ 10 ∷ v → (xs ≡ ys) × (u ≡ v)
unfolding items_text
items_tell [] [] u v all_x all_y same = (refl, cc)
items_tell (x ∷ xs) (y ∷ ys) u v all_x all_y same =
    let same_words : item_text x ++ (items_text xs ++ 10 ∷ u) ≡ item_text y ++ (items_text ys ++ 10 ∷ v) = simp append_assoc at (ap (drop 1) same) in
    let parts = cut (item_text x) (item_text y) (items_text xs ++ 10 ∷ u) (items_text ys ++ 10 ∷ v) (item_word x all_x.0) (item_word y all_y.0) (items_stop xs u) (items_stop ys v) same_words in
    let head : x ≡ y = one_item x y all_x.0 all_y.0 parts.0 in
    let tails = items_tell xs ys u v all_x.1 all_y.1 parts.1 in
    (cc, tails.1)
items_tell xs ys u v all_x all_y same = absurd (omega (arith, ap first same))

-- ---- lines

reply_tells : (a b : Reply) (u v : List ℕ) → IsReplyValue a → IsReplyValue b → reply_text a ++ 10 ∷ u ≡ reply_text b ++ 10 ∷ v → (a ≡ b) × (u ≡ v)
unfolding reply_text
reply_tells (Done xs) (Done ys) u v is_a is_b same =
    let items = items_tell xs ys u v is_a is_b (ap (drop 4) same) in
    (ap Done items.0, items.1)
reply_tells (Full m r d) (Full n s e) u v is_a is_b same =
    let numbers : decimal m ++ 32 ∷ (decimal r ++ 32 ∷ (decimal d ++ 10 ∷ u)) ≡ decimal n ++ 32 ∷ (decimal s ++ 32 ∷ (decimal e ++ 10 ∷ v)) = simp append_assoc at (ap (drop 5) same) in
    let needs = number_tells m n 32 _ _ is_a.0 is_b.0 (omega arith) numbers in
    let rests = number_tells r s 32 _ _ is_a.1 is_b.1 (omega arith) needs.1 in
    let empties = number_tells d e 10 _ _ is_a.2 is_b.2 (omega arith) rests.1 in
    (cc, empties.1)
reply_tells a b u v is_a is_b same = absurd (omega (arith, ap first same))

line_is : (e : Entry) (u : List ℕ) → entry_line e ++ u ≡ decimal e.client ++ 32 ∷ (decimal e.number ++ 32 ∷ (reply_text e.reply ++ 10 ∷ u))
unfolding entry_line
line_is e u = simp append_assoc

abbrev made : ℕ → ℕ → Reply → Entry
made client number reply = record { client = client; number = number; reply = reply }

entry_tells : (e f : Entry) (u v : List ℕ) → IsEntry e → IsEntry f → entry_line e ++ u ≡ entry_line f ++ v → (e ≡ f) × (u ≡ v)
entry_tells e f u v is_e is_f same =
    let clients = number_tells e.client f.client 32 _ _ is_e.client is_f.client (omega arith) (sym (line_is e u) ∙ same ∙ line_is f v) in
    let numbers = number_tells e.number f.number 32 _ _ is_e.number is_f.number (omega arith) clients.1 in
    let replies = reply_tells e.reply f.reply u v is_e.reply is_f.reply numbers.1 in
    (ap (λ c. made c e.number e.reply) clients.0 ∙ ap (λ n. made f.client n e.reply) numbers.0 ∙ ap (made f.client f.number) replies.0, replies.1)

some_line : (e : Entry) (u : List ℕ) → [] ≡ entry_line e ++ u → ⊥
some_line e u same = omega (arith, simp length-append at (ap length (same ∙ line_is e u)))

-- two histories that print the same lines are the same
pub lines_tell : (h k : List Entry) → AllByRecursion IsEntry h → AllByRecursion IsEntry k → flat_map entry_line h ≡ flat_map entry_line k → h ≡ k
lines_tell [] [] all_h all_k same = refl
lines_tell [] (f ∷ k) all_h all_k same = absurd (some_line f (flat_map entry_line k) same)
lines_tell (e ∷ h) [] all_h all_k same = absurd (some_line e (flat_map entry_line h) (sym same))
lines_tell (e ∷ h) (f ∷ k) all_h all_k same =
    let parts = entry_tells e f (flat_map entry_line h) (flat_map entry_line k) all_h.0 all_k.0 same in
    let tails : h ≡ k = lines_tell h k all_h.1 all_k.1 parts.1 in
    cc
