-- The lines that a history prints.
use Rattle.std.specs.Prelude.{ℕ, List, [], ◌∷◌, ◌++◌, codes}
use Rattle.std.specs.List.{flat_map}
use Rattle.std.specs.Fmt.{decimal}
use Rattle.sea_plain.specs.declared.reply.Item.{Item}
use Rattle.sea_plain.specs.declared.reply.Item.TheVariants.{Unit, Absent, Bytes}
use Rattle.sea_plain.specs.declared.reply.Reply.{Reply}
use Rattle.sea_plain.specs.declared.reply.Reply.TheVariants.{Done, Full}
use Rattle.sea_plain_script.specs.declared.history.Entry.{Entry}
use Rattle.sea_plain_script.specs.Script.{data_text}

unfoldable pub item_text : Item → List ℕ
item_text Unit = codes "-"
item_text Absent = codes "none"
item_text (Bytes bytes) = data_text bytes

-- each item behind a space
unfoldable pub items_text : List Item → List ℕ
items_text items = flat_map (λ item. 32 ∷ item_text item) items

unfoldable pub reply_text : Reply → List ℕ
reply_text (Done items) = codes "done" ++ items_text items
reply_text (Full need rest empty) =
    codes "full " ++ decimal need ++ 32 ∷ decimal rest ++ 32 ∷ decimal empty

-- an entry's line
unfoldable pub entry_line : Entry → List ℕ
entry_line entry = decimal entry.client ++ 32 ∷ decimal entry.number ++ 32 ∷ reply_text entry.reply ++ 10 ∷ []

-- the closing line, with the number of lines before it and of the send-backs
unfoldable pub end_line : ℕ → ℕ → List ℕ
end_line entries sent_back = codes "end " ++ decimal entries ++ 32 ∷ decimal sent_back ++ 10 ∷ []
