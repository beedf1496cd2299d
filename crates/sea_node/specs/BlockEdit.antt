-- What an edit of a block's node tells.
use Rattle.std.specs.Prelude.{◌≡◌, ℕ, ◌+◌, ◌≤◌, List, Option}
use Rattle.sea_base.specs.Splice.{IsSplice, spliced}
use Rattle.sea_node.specs.declared.splice.BlockEdit.{BlockEdit}
use Rattle.sea_node.specs.Entries.{Entry, size, edited, entries_before, entries_at, entry_put}
use Rattle.sea_node.specs.Node.{node_bytes}

-- Where the edit of a node's block cuts, how many bytes go and which come, and how many the entries
-- take then; where these fit, the splice makes the block of the edited node.
pub record IsEdit (key : List ℕ) (value : Option (List ℕ)) (entries : List Entry)
    (edit : BlockEdit) : Type 0 where
  pub size_is : edit.size ≡ size (edited key value entries)
  pub cut_is : edit.delta.cut ≡ 32 + size (entries_before key entries)
  pub gone_is : edit.delta.gone ≡ size (entries_at key entries)
  pub put_is : edit.delta.put ≡ entry_put key value
  pub fits : size (edited key value entries) ≤ 4064
      → IsSplice edit.delta.cut edit.delta.gone edit.delta.put
  pub splice_is : size (edited key value entries) ≤ 4064
      → spliced edit.delta.cut edit.delta.gone edit.delta.put (node_bytes edit.level entries)
      ≡ node_bytes edit.level (edited key value entries)
