use Rattle.std.proofs.Common.{◌≡◌, length}
use Rattle.sea_node.specs.Entries.{key_order}
use Rattle.sea_node.proofs.order.comes_before_by_words.Given as goal

abbrev pub invariant-words : goal.invariant-words
invariant-words l = key_order l.front l.other ≡ key_order l.first l.second

abbrev pub decreases-words : goal.decreases-words
decreases-words l = length l.front
