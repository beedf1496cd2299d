use Rattle.std.proofs.Common.{rules, is_lt}
use Rattle.std.proofs.lemmas.List.Sorted.{answers_always}
use Rattle.sea_node.specs.Entries.{Entry, key_order}
use Rattle.sea_node.proofs.Keys.{rising_answer}
use Rattle.sea_node.proofs.reading.is_rising.Goals as goal

pub returns : goal.returns
returns c =
    rising_answer c.args.entries.now c.is_sorted_by.result (c.is_sorted_by.ensures.cases (λ (x y : Entry). is_lt (key_order x.0 y.0)) (answers_always _ _ _ (λ a r q k. search rules)))
