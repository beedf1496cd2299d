-- The lines that a history prints.
use Rattle.std.specs.Prelude.{◌≡◌, ℕ, ◌^◌, ◌<◌, List, [], ◌∷◌, ◌++◌, length, codes}
use Rattle.std.specs.List.{flat_map, AllByRecursion}
use Rattle.std.specs.Fmt.{decimal}
use Rattle.sea_object.specs.declared.reply.Item.{Item}
use Rattle.sea_object.specs.declared.reply.Item.TheVariants.{Unit as Nothing, Absent, Bytes, Number, Names, Pairs}
use Rattle.sea_object.specs.declared.reply.Reply.{Reply}
use Rattle.sea_object.specs.declared.reply.Reply.TheVariants.{Done, Refused, Full}
use Rattle.sea_object.specs.declared.reply.Why.{Why}
use Rattle.sea_object.specs.declared.reply.Why.TheVariants.{NoObject, OmapFull, AttrFull}
use Rattle.sea_history.specs.declared.history.Entry.{Entry}
use Rattle.sea_script.specs.Word.{AreBytes, data_text, name_text}

-- each name behind a space, and their number before them
unfoldable pub names_text : List (List ℕ) → List ℕ
names_text names = 108 ∷ decimal (length names) ++ flat_map (λ name. 32 ∷ name_text name) names

-- a key and its value, each behind a space
abbrev pub pair_text_of : List ℕ × List ℕ → List ℕ
pair_text_of pair = 32 ∷ name_text pair.0 ++ 32 ∷ data_text pair.1

-- the pairs, and their number before them
unfoldable pub pairs_text : List (List ℕ × List ℕ) → List ℕ
pairs_text pairs = 112 ∷ decimal (length pairs) ++ flat_map pair_text_of pairs

unfoldable pub item_text : Item → List ℕ
item_text Nothing = codes "-"
item_text Absent = codes "none"
item_text (Bytes bytes) = data_text bytes
item_text (Number n) = 110 ∷ decimal n
item_text (Names names) = names_text names
item_text (Pairs pairs) = pairs_text pairs

-- each item behind a space
unfoldable pub items_text : List Item → List ℕ
items_text items = flat_map (λ item. 32 ∷ item_text item) items

abbrev pub why_text : Why → List ℕ
why_text NoObject = codes "NoObject"
why_text OmapFull = codes "OmapFull"
why_text AttrFull = codes "AttrFull"

unfoldable pub reply_text : Reply → List ℕ
reply_text (Done items) = codes "done" ++ items_text items
reply_text (Refused op why) = codes "refused " ++ decimal op ++ 32 ∷ why_text why
reply_text (Full need rest empty) =
    codes "full " ++ decimal need ++ 32 ∷ decimal rest ++ 32 ∷ decimal empty

-- an entry's line
unfoldable pub entry_line : Entry → List ℕ
entry_line entry = decimal entry.client ++ 32 ∷ decimal entry.number ++ 32 ∷ reply_text entry.reply ++ 10 ∷ []

-- the closing line, with the number of lines before it and of the send-backs
unfoldable pub end_line : ℕ → ℕ → List ℕ
end_line entries sent_back = codes "end " ++ decimal entries ++ 32 ∷ decimal sent_back ++ 10 ∷ []

-- the text of a history: the lines of its entries, and the closing line
abbrev pub history_text : List Entry → ℕ → List ℕ
history_text entries sent_back = flat_map entry_line entries ++ end_line (length entries) sent_back

-- what every item, reply and entry has
abbrev pub IsItem : Item → Type 0
IsItem (Bytes bytes) = AreBytes bytes
IsItem (Number n) = n < 2 ^ 32
IsItem (Names names) = (length names < 2 ^ 64) × AllByRecursion AreBytes names
IsItem (Pairs pairs) = (length pairs < 2 ^ 64)
    × AllByRecursion (λ pair. AreBytes pair.0 × AreBytes pair.1) pairs
IsItem _ = Unit {0}

abbrev pub IsReplyValue : Reply → Type 0
IsReplyValue (Done items) = AllByRecursion IsItem items
IsReplyValue (Refused op why) = op < 2 ^ 32
IsReplyValue (Full need rest empty) = (need < 2 ^ 32) × (rest < 2 ^ 32) × (empty < 2 ^ 32)

pub record IsEntry (entry : Entry) : Type 0 where
  pub client : entry.client < 2 ^ 32
  pub number : entry.number < 2 ^ 32
  pub reply : IsReplyValue entry.reply

-- two different histories never have the same text
abbrev pub TellsApart : Type 0
TellsApart =
    (h k : List Entry) (s t : ℕ) → AllByRecursion IsEntry h → AllByRecursion IsEntry k
    → length h < 2 ^ 64 → length k < 2 ^ 64 → s < 2 ^ 64 → t < 2 ^ 64
    → history_text h s ≡ history_text k t → (h ≡ k) × (s ≡ t)
