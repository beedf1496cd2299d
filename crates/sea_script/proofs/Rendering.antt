-- Different histories print different texts.
use Rattle.std.proofs.Common.{◌≡◌, ℕ, ◌^◌, ◌<◌, ◌≤◌, List, [], ◌∷◌, ◌++◌, length, drop, get_or, refl, sym, ap, ◌∙◌, arith, append_assoc, codes}
use Rattle.std.specs.List.{AllByRecursion, flat_map}
use Rattle.std.specs.Fmt.{decimal}
use Rattle.std.proofs.lemmas.Fmt.{decimal_injective, decimal_is_IsNumeral, decimal_nonempty}
use Rattle.std.proofs.lemmas.List.Elements.{All-from_get_or, All-head, All-tail}
use Rattle.std.proofs.lemmas.Str.Parse.{digit_at}
use Rattle.sea_object.specs.declared.reply.Item.{Item}
use Rattle.sea_object.specs.declared.reply.Item.TheVariants.{Unit as Nothing, Absent, Bytes, Number, Names, Pairs}
use Rattle.sea_object.specs.declared.reply.Reply.{Reply}
use Rattle.sea_object.specs.declared.reply.Reply.TheVariants.{Done, Refused, Full}
use Rattle.sea_object.specs.declared.reply.Why.{Why}
use Rattle.sea_object.specs.declared.reply.Why.TheVariants.{NoObject, OmapFull, AttrFull}
use Rattle.sea_history.specs.declared.history.Entry.{Entry}
use Rattle.sea_script.specs.Word.{AreBytes, data_text, name_text}
use Rattle.sea_script.specs.Render.{IsEntry, IsItem, IsReplyValue, TellsApart, end_line, entry_line, item_text, items_text, names_text, pair_text_of, pairs_text, reply_text, why_text}
use Rattle.sea_script.proofs.Spelling.{one_data, one_name}
use Rattle.sea_script.proofs.Words.{IsWord, data_word, name_word, word_from_test}

-- ---- words

-- the first byte, or 33 where there is none
abbrev first : List ℕ → ℕ
first text = get_or text 0 33

-- a word ends at the first byte that no word has
cut : (x y r q : List ℕ) → IsWord x → IsWord y → first r < 33 → first q < 33 → x ++ r ≡ y ++ q → (x ≡ y) × (r ≡ q)
cut [] [] r q word_x word_y stops_r stops_q same = (refl, same)
cut [] (b ∷ y) r q word_x word_y stops_r stops_q same = absurd (omega (arith, ap first same, All-head (λ b. 33 ≤ b) b y word_y))
cut (a ∷ x) [] r q word_x word_y stops_r stops_q same = absurd (omega (arith, ap first same, All-head (λ b. 33 ≤ b) a x word_x))
cut (a ∷ x) (b ∷ y) r q word_x word_y stops_r stops_q same =
    let head : a ≡ b = cc in
    let parts = cut x y r q (All-tail (λ b. 33 ≤ b) a x word_x) (All-tail (λ b. 33 ≤ b) b y word_y) stops_r stops_q (ap (drop 1) same) in
    (cc, parts.1)

-- a number is a word, so it ends there too
number_word : (n : ℕ) → n < 2 ^ 64 → IsWord (decimal n)
number_word n small =
    All-from_get_or (λ b. 33 ≤ b) (decimal n) 0 (λ i within. let digit = digit_at (decimal n) i (decimal_is_IsNumeral n (omega arith)).0.1 within in omega (arith, digit.0))

number_tells : (m n s : ℕ) (r q : List ℕ) → m < 2 ^ 64 → n < 2 ^ 64 → s < 33 → decimal m ++ s ∷ r ≡ decimal n ++ s ∷ q → (m ≡ n) × (r ≡ q)
number_tells m n s r q small_m small_n stops same =
    let parts = cut (decimal m) (decimal n) (s ∷ r) (s ∷ q) (number_word m small_m) (number_word n small_n) stops stops same in
    (decimal_injective m n (omega arith) (omega arith) parts.0, ap (drop 1) parts.1)

-- a number begins with a digit
number_not_one : (n : ℕ) (r : List ℕ) (b : ℕ) → n < 2 ^ 64 → 57 < b → b ≡ first (decimal n ++ r) → ⊥
number_not_one n r b small above same = go (decimal n) refl (decimal_nonempty n (omega arith)) (λ i within. digit_at (decimal n) i (decimal_is_IsNumeral n (omega arith)).0.1 within)
  where
    go : (text : List ℕ) → decimal n ≡ text → 0 < length (decimal n) → ((i : ℕ) → i < length (decimal n) → (48 ≤ get_or (decimal n) i 0) × (get_or (decimal n) i 0 ≤ 57)) → ⊥
    go [] is some digits = omega (arith, ap length is)
    go (d ∷ text) is some digits =
        let digit = digits 0 some in
        omega (arith, digit, ap (λ xs. get_or xs 0 0) is, same ∙ ap (λ xs. first (xs ++ r)) is)

-- a number ends before any byte that ends a word
number_ends : (m n : ℕ) (r q : List ℕ) → m < 2 ^ 64 → n < 2 ^ 64 → first r < 33 → first q < 33 → decimal m ++ r ≡ decimal n ++ q → (m ≡ n) × (r ≡ q)
number_ends m n r q small_m small_n stops_r stops_q same =
    let parts = cut (decimal m) (decimal n) r q (number_word m small_m) (number_word n small_n) stops_r stops_q same in
    (decimal_injective m n (omega arith) (omega arith) parts.0, parts.1)

-- ---- items

-- so many names in a row are told apart
names_stop : (names : List (List ℕ)) (u : List ℕ) → first u < 33 → first (flat_map (λ name. 32 ∷ name_text name) names ++ u) < 33
names_stop [] u stops = stops
names_stop (name ∷ names) u stops = omega arith

names_tell : (xs ys : List (List ℕ)) (u v : List ℕ) → AllByRecursion AreBytes xs → AllByRecursion AreBytes ys → length xs ≡ length ys → first u < 33 → first v < 33 → flat_map (λ name. 32 ∷ name_text name) xs ++ u ≡ flat_map (λ name. 32 ∷ name_text name) ys ++ v → (xs ≡ ys) × (u ≡ v)
names_tell [] [] u v all_x all_y long stops_u stops_v same = (refl, same)
names_tell [] (y ∷ ys) u v all_x all_y long stops_u stops_v same = absurd (omega arith)
names_tell (x ∷ xs) [] u v all_x all_y long stops_u stops_v same = absurd (omega arith)
names_tell (x ∷ xs) (y ∷ ys) u v all_x all_y long stops_u stops_v same =
    let words : name_text x ++ (flat_map (λ name. 32 ∷ name_text name) xs ++ u) ≡ name_text y ++ (flat_map (λ name. 32 ∷ name_text name) ys ++ v) = simp append_assoc at (ap (drop 1) same) in
    let parts = cut (name_text x) (name_text y) (flat_map (λ name. 32 ∷ name_text name) xs ++ u) (flat_map (λ name. 32 ∷ name_text name) ys ++ v) (name_word x all_x.0) (name_word y all_y.0) (names_stop xs u stops_u) (names_stop ys v stops_v) words in
    let head : x ≡ y = one_name (name_text x) x y all_x.0 all_y.0 refl parts.0 in
    let tails = names_tell xs ys u v all_x.1 all_y.1 (omega arith) stops_u stops_v parts.1 in
    (cc, tails.1)

pairs_stop : (pairs : List (List ℕ × List ℕ)) (u : List ℕ) → first u < 33 → first (flat_map pair_text_of pairs ++ u) < 33
pairs_stop [] u stops = stops
pairs_stop (pair ∷ pairs) u stops = omega arith

pair_line : (p : List ℕ × List ℕ) (ps : List (List ℕ × List ℕ)) (u : List ℕ) → flat_map pair_text_of (p ∷ ps) ++ u ≡ 32 ∷ (name_text p.0 ++ 32 ∷ (data_text p.1 ++ (flat_map pair_text_of ps ++ u)))
pair_line p ps u = simp append_assoc

pairs_tell : (xs ys : List (List ℕ × List ℕ)) (u v : List ℕ) → AllByRecursion (λ pair. AreBytes pair.0 × AreBytes pair.1) xs → AllByRecursion (λ pair. AreBytes pair.0 × AreBytes pair.1) ys → length xs ≡ length ys → first u < 33 → first v < 33 → flat_map pair_text_of xs ++ u ≡ flat_map pair_text_of ys ++ v → (xs ≡ ys) × (u ≡ v)
pairs_tell [] [] u v all_x all_y long stops_u stops_v same = (refl, same)
pairs_tell [] (y ∷ ys) u v all_x all_y long stops_u stops_v same = absurd (omega arith)
pairs_tell (x ∷ xs) [] u v all_x all_y long stops_u stops_v same = absurd (omega arith)
pairs_tell (x ∷ xs) (y ∷ ys) u v all_x all_y long stops_u stops_v same =
    let keys = cut (name_text x.0) (name_text y.0) (32 ∷ (data_text x.1 ++ (flat_map pair_text_of xs ++ u))) (32 ∷ (data_text y.1 ++ (flat_map pair_text_of ys ++ v))) (name_word x.0 all_x.0.0) (name_word y.0 all_y.0.0) (omega arith) (omega arith) (ap (drop 1) (sym (pair_line x xs u) ∙ same ∙ pair_line y ys v)) in
    let values = cut (data_text x.1) (data_text y.1) (flat_map pair_text_of xs ++ u) (flat_map pair_text_of ys ++ v) (data_word x.1 all_x.0.1) (data_word y.1 all_y.0.1) (pairs_stop xs u stops_u) (pairs_stop ys v stops_v) (ap (drop 1) keys.1) in
    let key : x.0 ≡ y.0 = one_name (name_text x.0) x.0 y.0 all_x.0.0 all_y.0.0 refl keys.0 in
    let value : x.1 ≡ y.1 = one_data (data_text x.1) x.1 y.1 all_x.0.1 all_y.0.1 refl values.0 in
    let head : x ≡ y = ap (λ k. (k, x.1)) key ∙ ap (λ d. (y.0, d)) value in
    let tails = pairs_tell xs ys u v all_x.1 all_y.1 (omega arith) stops_u stops_v values.1 in
    (cc, tails.1)

-- an item ends before any byte that ends a word
item_tells : (a b : Item) (u v : List ℕ) → IsItem a → IsItem b → first u < 33 → first v < 33 → item_text a ++ u ≡ item_text b ++ v → (a ≡ b) × (u ≡ v)
unfolding item_text names_text pairs_text data_text
item_tells Nothing Nothing u v is_a is_b stops_u stops_v same = (refl, ap (drop 1) same)
item_tells Absent Absent u v is_a is_b stops_u stops_v same = (refl, ap (drop 4) same)
item_tells (Bytes x) (Bytes y) u v is_a is_b stops_u stops_v same =
    let parts = cut (data_text x) (data_text y) u v (data_word x is_a) (data_word y is_b) stops_u stops_v same in
    (ap Bytes (one_data (data_text x) x y is_a is_b refl parts.0), parts.1)
item_tells (Number m) (Number n) u v is_a is_b stops_u stops_v same =
    let parts = number_ends m n u v (omega arith) (omega arith) stops_u stops_v (ap (drop 1) same) in
    (ap Number parts.0, parts.1)
item_tells (Names xs) (Names ys) u v is_a is_b stops_u stops_v same =
    let counts : decimal (length xs) ++ (flat_map (λ name. 32 ∷ name_text name) xs ++ u) ≡ decimal (length ys) ++ (flat_map (λ name. 32 ∷ name_text name) ys ++ v) = simp append_assoc at (ap (drop 1) same) in
    let number = number_ends (length xs) (length ys) (flat_map (λ name. 32 ∷ name_text name) xs ++ u) (flat_map (λ name. 32 ∷ name_text name) ys ++ v) (omega arith) (omega arith) (names_stop xs u stops_u) (names_stop ys v stops_v) counts in
    let parts = names_tell xs ys u v is_a.1 is_b.1 number.0 stops_u stops_v number.1 in
    (ap Names parts.0, parts.1)
item_tells (Pairs xs) (Pairs ys) u v is_a is_b stops_u stops_v same =
    let counts : decimal (length xs) ++ (flat_map pair_text_of xs ++ u) ≡ decimal (length ys) ++ (flat_map pair_text_of ys ++ v) = simp append_assoc at (ap (drop 1) same) in
    let number = number_ends (length xs) (length ys) (flat_map pair_text_of xs ++ u) (flat_map pair_text_of ys ++ v) (omega arith) (omega arith) (pairs_stop xs u stops_u) (pairs_stop ys v stops_v) counts in
    let parts = pairs_tell xs ys u v is_a.1 is_b.1 number.0 stops_u stops_v number.1 in
    (ap Pairs parts.0, parts.1)
item_tells Absent (Number n) u v is_a is_b stops_u stops_v same = absurd (number_not_one n v 111 (omega arith) (omega arith) (ap (λ text. get_or (drop 1 text) 0 33) same))
item_tells (Number n) Absent u v is_a is_b stops_u stops_v same = absurd (number_not_one n u 111 (omega arith) (omega arith) (ap (λ text. get_or (drop 1 text) 0 33) (sym same)))
item_tells a b u v is_a is_b stops_u stops_v same = absurd (omega (arith, ap first same))

-- a space or the end of the line comes next
items_stop : (items : List Item) (u : List ℕ) → first (items_text items ++ 10 ∷ u) < 33
unfolding items_text
items_stop [] u = omega arith
items_stop (item ∷ items) u = omega arith

-- items are followed by the end of the line in one way
items_tell : (xs ys : List Item) (u v : List ℕ) → AllByRecursion IsItem xs → AllByRecursion IsItem ys → items_text xs ++ 10 ∷ u ≡ items_text ys ++ 10 ∷ v → (xs ≡ ys) × (u ≡ v)
unfolding items_text
items_tell [] [] u v all_x all_y same = (refl, cc)
items_tell (x ∷ xs) (y ∷ ys) u v all_x all_y same =
    let same_words : item_text x ++ (items_text xs ++ 10 ∷ u) ≡ item_text y ++ (items_text ys ++ 10 ∷ v) = simp append_assoc at (ap (drop 1) same) in
    let parts = item_tells x y (items_text xs ++ 10 ∷ u) (items_text ys ++ 10 ∷ v) all_x.0 all_y.0 (items_stop xs u) (items_stop ys v) same_words in
    let head : x ≡ y = parts.0 in
    let tails = items_tell xs ys u v all_x.1 all_y.1 parts.1 in
    (cc, tails.1)
items_tell xs ys u v all_x all_y same = absurd (omega (arith, ap first same))

-- ---- lines

why_word : (why : Why) → IsWord (why_text why)
why_word NoObject = word_from_test (codes "NoObject") refl
why_word OmapFull = word_from_test (codes "OmapFull") refl
why_word AttrFull = word_from_test (codes "AttrFull") refl

one_why : (a b : Why) → why_text a ≡ why_text b → a ≡ b
one_why NoObject NoObject same = refl
one_why OmapFull OmapFull same = refl
one_why AttrFull AttrFull same = refl
one_why a b same = absurd (omega (arith, ap first same))

reply_tells : (a b : Reply) (u v : List ℕ) → IsReplyValue a → IsReplyValue b → reply_text a ++ 10 ∷ u ≡ reply_text b ++ 10 ∷ v → (a ≡ b) × (u ≡ v)
unfolding reply_text
reply_tells (Done xs) (Done ys) u v is_a is_b same =
    let items = items_tell xs ys u v is_a is_b (ap (drop 4) same) in
    (ap Done items.0, items.1)
reply_tells (Refused m why) (Refused n reason) u v is_a is_b same =
    let numbers : decimal m ++ 32 ∷ (why_text why ++ 10 ∷ u) ≡ decimal n ++ 32 ∷ (why_text reason ++ 10 ∷ v) = simp append_assoc at (ap (drop 8) same) in
    let ops = number_tells m n 32 _ _ (omega arith) (omega arith) (omega arith) numbers in
    let parts = cut (why_text why) (why_text reason) (10 ∷ u) (10 ∷ v) (why_word why) (why_word reason) (omega arith) (omega arith) ops.1 in
    let whys : why ≡ reason = one_why why reason parts.0 in
    (ap (λ k. Refused k why) ops.0 ∙ ap (Refused n) whys, ap (drop 1) parts.1)
reply_tells (Full m r d) (Full n s e) u v is_a is_b same =
    let numbers : decimal m ++ 32 ∷ (decimal r ++ 32 ∷ (decimal d ++ 10 ∷ u)) ≡ decimal n ++ 32 ∷ (decimal s ++ 32 ∷ (decimal e ++ 10 ∷ v)) = simp append_assoc at (ap (drop 5) same) in
    let needs = number_tells m n 32 _ _ (omega arith) (omega arith) (omega arith) numbers in
    let rests = number_tells r s 32 _ _ (omega arith) (omega arith) (omega arith) needs.1 in
    let empties = number_tells d e 10 _ _ (omega arith) (omega arith) (omega arith) rests.1 in
    (cc, empties.1)
reply_tells a b u v is_a is_b same = absurd (omega (arith, ap first same))

line_is : (e : Entry) (u : List ℕ) → entry_line e ++ u ≡ decimal e.client ++ 32 ∷ (decimal e.number ++ 32 ∷ (reply_text e.reply ++ 10 ∷ u))
unfolding entry_line
line_is e u = simp append_assoc

abbrev made : ℕ → ℕ → Reply → Entry
made client number reply = record { client = client; number = number; reply = reply }

entry_tells : (e f : Entry) (u v : List ℕ) → IsEntry e → IsEntry f → entry_line e ++ u ≡ entry_line f ++ v → (e ≡ f) × (u ≡ v)
entry_tells e f u v is_e is_f same =
    let clients = number_tells e.client f.client 32 _ _ (omega arith) (omega arith) (omega arith) (sym (line_is e u) ∙ same ∙ line_is f v) in
    let numbers = number_tells e.number f.number 32 _ _ (omega arith) (omega arith) (omega arith) clients.1 in
    let replies = reply_tells e.reply f.reply u v is_e.reply is_f.reply numbers.1 in
    (ap (λ c. made c e.number e.reply) clients.0 ∙ ap (λ n. made f.client n e.reply) numbers.0 ∙ ap (made f.client f.number) replies.0, replies.1)

-- the closing line begins with no digit
end_is : (m s : ℕ) → end_line m s ≡ 101 ∷ 110 ∷ 100 ∷ 32 ∷ (decimal m ++ 32 ∷ (decimal s ++ 10 ∷ []))
unfolding end_line
end_is m s = simp append_assoc

no_end : (e : Entry) (u : List ℕ) (m s : ℕ) → e.client < 2 ^ 64 → end_line m s ≡ entry_line e ++ u → ⊥
no_end e u m s small same =
    number_not_one e.client (32 ∷ (decimal e.number ++ 32 ∷ (reply_text e.reply ++ 10 ∷ u))) 101 small (omega arith) (ap first (sym (end_is m s) ∙ same ∙ line_is e u))

-- two histories that print the same text are the same
texts_tell : (h k : List Entry) (m n s t : ℕ) → AllByRecursion IsEntry h → AllByRecursion IsEntry k → m < 2 ^ 64 → n < 2 ^ 64 → s < 2 ^ 64 → t < 2 ^ 64 → flat_map entry_line h ++ end_line m s ≡ flat_map entry_line k ++ end_line n t → (h ≡ k) × (s ≡ t)
texts_tell [] [] m n s t all_h all_k small_m small_n small_s small_t same =
    let numbers = number_tells m n 32 (decimal s ++ 10 ∷ []) (decimal t ++ 10 ∷ []) small_m small_n (omega arith) (ap (drop 4) (sym (end_is m s) ∙ same ∙ end_is n t)) in
    let backs = number_tells s t 10 [] [] small_s small_t (omega arith) numbers.1 in
    (refl, backs.0)
texts_tell [] (f ∷ k) m n s t all_h all_k small_m small_n small_s small_t same =
    absurd (no_end f (flat_map entry_line k ++ end_line n t) m s (omega (arith, all_k.0.client)) (same ∙ append_assoc (entry_line f) (flat_map entry_line k) (end_line n t)))
texts_tell (e ∷ h) [] m n s t all_h all_k small_m small_n small_s small_t same =
    absurd (no_end e (flat_map entry_line h ++ end_line m s) n t (omega (arith, all_h.0.client)) (sym same ∙ append_assoc (entry_line e) (flat_map entry_line h) (end_line m s)))
texts_tell (e ∷ h) (f ∷ k) m n s t all_h all_k small_m small_n small_s small_t same =
    let parts = entry_tells e f (flat_map entry_line h ++ end_line m s) (flat_map entry_line k ++ end_line n t) all_h.0 all_k.0 (sym (append_assoc (entry_line e) (flat_map entry_line h) (end_line m s)) ∙ same ∙ append_assoc (entry_line f) (flat_map entry_line k) (end_line n t)) in
    let others = texts_tell h k m n s t all_h.1 all_k.1 small_m small_n small_s small_t parts.1 in
    let head : e ≡ f = parts.0 in
    let tails : h ≡ k = others.0 in
    (cc, others.1)

pub tells_apart : TellsApart
tells_apart = λ h k s t all_h all_k few_h few_k small_s small_t same. texts_tell h k (length h) (length k) s t all_h all_k few_h few_k small_s small_t same
