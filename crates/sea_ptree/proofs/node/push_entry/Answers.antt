use Rattle.std.proofs.Common.{ℕ, List, ◌++◌, refl, ap, ◌∙◌}
use Rattle.sea_ptree.proofs.Printing.{entry_put}
use Rattle.sea_ptree.proofs.node.push_entry.Goals as goal

pub returns : goal.returns
returns c =
    c.in_ok-extend_from_slice.ensures.items ∙ ap (λ (x : List ℕ). c.args.bytes.now.items ++ x) (entry_put _ c.put_u64.new.bytes c.put_u32.new.bytes c.put_u64-2.new.bytes c.put_u64-3.new.bytes (c.args.key, c.args.slot) refl c.put_u64.ensures c.put_u32.ensures c.put_u64-2.ensures c.put_u64-3.ensures)
