use Rattle.std.proofs.Common.{◌≡◌, ◌+◌, ◌<◌, ◌≤◌, length, ℕ, suc, ◌-◌, take, drop, arith, subst, sym, ◌∙◌, ap, List, slice_index_or}
use Rattle.sea_node.specs.Entries.{Entry, entry_size, size}
use Rattle.sea_node.proofs.Nodes.{size-cut}
use Rattle.sea_tree.specs.Cut.{difference}
use Rattle.sea_tree.proofs.Cuts.{Best, Best-better, Best-worse, size-take_more}
use Rattle.sea_tree.proofs.cut.cut_of.Goals as goal
use Rattle.sea_tree.proofs.cut.cut_of.Goals.{then-difference-least, else-difference-least}

left_more : (entries : List Entry) (i left : ℕ) (entry : Entry) → 1 ≤ i → i < length entries → left ≡ size (take (i - 1) entries) → entry ≡ slice_index_or entries (i - 1) entry → left + (3 + length entry.0 + length entry.1) ≡ size (take (i + 1 - 1) entries)
left_more entries i left entry some lt is at =
    let one : i + 1 - 1 ≡ suc (i - 1) = omega arith in
    let more : size (take (suc (i - 1)) entries) ≡ size (take (i - 1) entries) + entry_size entry = size-take_more entries (i - 1) entry (omega arith) at in
    let same : size (take (i + 1 - 1) entries) ≡ size (take (suc (i - 1)) entries) = ap (λ k. size (take k entries)) one in
    omega (arith, more, same)

difference_here : (entries : List Entry) (i left total d : ℕ) → left ≡ size (take (i + 1 - 1) entries) → total ≡ size entries → d ≡ (left - (total - left)) + ((total - left) - left) → d ≡ difference entries i
difference_here entries i left total d is whole gap_is =
    let here : i + 1 - 1 ≡ i = omega arith in
    let before : size (take (i + 1 - 1) entries) ≡ size (take i entries) = ap (λ k. size (take k entries)) here in
    let parts : size (take i entries) + size (drop i entries) ≡ size entries = size-cut i entries in
    let l : left ≡ size (take i entries) = is ∙ before in
    let r : total - left ≡ size (drop i entries) = omega (arith, l, parts, whole) in
    gap_is ∙ ap (λ x. (x - (total - left)) + ((total - left) - x)) l ∙ ap (λ x. (size (take i entries) - x) + (x - size (take i entries))) r

pub loop-i-preserved : goal.loop-i-preserved
loop-i-preserved c =
    let entries : List Entry = c.args.entries.now in
    let was = c.loop-i.invariant in
    let some : 0 < c.loop-i.i = omega arith in
    let left : c.loop-i.left + c.entry_size-left.result ≡ size (take (c.loop-i.i + 1 - 1) entries) =
    omega (arith, left_more entries c.loop-i.i c.loop-i.left c.index-entries-i.result (omega arith) (omega arith) was.left c.index-entries-i.is, c.entry_size-left.ensures) in
    let here = difference_here entries c.loop-i.i (c.loop-i.left + c.entry_size-left.result) c.size_of-total.result c.abs_diff-difference.result left c.size_of-total.ensures c.abs_diff-difference.ensures in
    elim c.if-difference-least.branch [
      | then-difference-least w ↦ record {
        left = left;
        best = let better = Best-better entries c.loop-i.i c.loop-i.least c.loop-i.cut c.abs_diff-difference.result some was.best here w.if-difference-least.true in
            subst (λ x. Best entries (c.loop-i.i + 1) x c.if-difference-least.cut) (sym w.least-is) (subst (λ x. Best entries (c.loop-i.i + 1) c.abs_diff-difference.result x) (sym w.cut-is) better);
        unset = λ one. absurd (omega (arith, one));
      }
      | else-difference-least w ↦ record {
        left = left;
        best = let worse = Best-worse entries c.loop-i.i c.loop-i.least c.loop-i.cut c.abs_diff-difference.result some was.best here w.if-difference-least.false (λ one. omega (arith, was.unset one, c.abs_diff-difference.ensures, c.size_of-total.ensures, c.requires.fits, left, size-cut c.loop-i.i entries)) in
            subst (λ x. Best entries (c.loop-i.i + 1) x c.if-difference-least.cut) (sym w.least-is) (subst (λ x. Best entries (c.loop-i.i + 1) c.loop-i.least x) (sym w.cut-is) worse);
        unset = λ one. absurd (omega (arith, one));
      }
    ]
