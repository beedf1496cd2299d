-- The edit of a block's node, by where the key stands among the entries.
use Rattle.std.proofs.Common.{◌≡◌, ℕ, ◌+◌, ◌-◌, ◌≤◌, List, length, Option, sym, ap, subst, ◌∙◌, arith}
use Rattle.sea_base.specs.Splice.{IsSplice, spliced}
use Rattle.sea_node.specs.declared.lookup.Passed.{Passed}
use Rattle.sea_node.specs.Entries.{Entry, size, entries_before, entries_at, entry_put}
use Rattle.sea_node.specs.Node.{Spells, node_bytes}
use Rattle.sea_node.specs.Lookup.{Passes}
use Rattle.sea_node.specs.BlockEdit.{IsEdit}
use Rattle.sea_node.proofs.Edits.{size_split, size-edited, splice_fits, spliced-edited}

module _ (block key : List ℕ) (level : ℕ) (es : List Entry) (passed : Passed) (spells : Spells block level es) (passes : Passes block key es passed) (before gone : ℕ) (before_is : before ≡ size (entries_before key es)) (gone_is : gone ≡ size (entries_at key es)) where
  pub before_fits : before ≤ 4064
  before_fits = omega (arith, size_split key es spells.node.rising, spells.node.fits)

  pub gone_fits : gone ≤ passed.last.end - 32
  gone_fits = omega (arith, size_split key es spells.node.rising, passes.end_is)

  pub gone_small : gone ≤ 4064
  gone_small = omega (arith, size_split key es spells.node.rising, spells.node.fits)

  pub edit_is : (value : Option (List ℕ)) (put : List ℕ) (n : ℕ) → put ≡ entry_put key value → n ≡ length put
      → IsEdit key value es (record { level = level; size = passed.last.end - 32 - gone + n; delta = record { cut = 32 + before; gone = gone; put = put } })
  edit_is value put n put_is len =
      let rising = spells.node.rising in
      let at : 32 + before ≡ 32 + size (entries_before key es) = ap (λ (k : ℕ). 32 + k) before_is in
      record {
        size_is = omega (arith, size-edited key value es rising, size_split key es rising, passes.end_is, ap length put_is);
        cut_is = at;
        gone_is = gone_is;
        put_is = put_is;
        fits = λ fits. subst (λ (p : List ℕ). IsSplice (32 + before) gone p) (sym put_is) (splice_fits (32 + before) gone key value es rising spells.node.fits fits at gone_is);
        splice_is = λ fits. ap (λ (p : List ℕ). spliced (32 + before) gone p (node_bytes level es)) put_is ∙ spliced-edited level (32 + before) gone key value es rising fits at gone_is;
      }
