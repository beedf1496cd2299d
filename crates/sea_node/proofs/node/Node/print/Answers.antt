use Rattle.std.proofs.Common.{◌≡◌, ◌++◌, List, length, take, arith, ap, sym, ◌∙◌, append-nil}
use Rattle.std.proofs.lemmas.List.{take_all}
use Rattle.std.proofs.lemmas.Result.{IfOk-weaker}
use Rattle.sea_node.specs.Entries.{Entry, entries_bytes}
use Rattle.sea_node.specs.Node.{Spells}
use Rattle.sea_node.specs.Reading.{front_bytes}
use Rattle.sea_node.proofs.Nodes.{front_written, node_written}
use Rattle.sea_node.proofs.node.Node.print.Goals as goal

pub loop-key-init : goal.loop-key-init
loop-key-init c =
    let level = c.args.self.now.level in
    front_written c.in_ok-bytes.bytes.items c.extend_from_slice.new.self.items c.push.new.self.items c.resize.new.self.items level c.push.new.self.len c.in_ok-bytes.ensures.items c.in_ok-extend_from_slice.ensures.items c.in_ok-push.ensures.items (omega (arith, c.in_ok-push.ensures.len, c.in_ok-extend_from_slice.ensures.len, c.in_ok-bytes.ensures.len)) c.in_ok-resize.ensures.items
    ∙ sym (append-nil (front_bytes level))

pub returns : goal.returns
returns c =
    let level = c.args.self.now.level in
    let es = c.args.self.now.entries in
    let all : take c.loop-key.key-index es ≡ es = take_all c.loop-key.key-index es (omega (arith, ap length c.items-key-items.ensures, c.loop-key-test.false)) in
    let whole = node_written c.loop-key.bytes.items c.resize-2.new.self.items level c.loop-key.bytes.len es c.requires (c.loop-key.invariant ∙ ap (λ (xs : List Entry). front_bytes level ++ entries_bytes xs) all) c.loop-key.bytes.ok.0 c.in_ok-resize-2.ensures.items in
    IfOk-weaker c.from_vec.result (λ block. block ≡ c.resize-2.new.self.items) (λ block. Spells block level es) (λ block is. record { node = c.requires; spelled = is ∙ whole }) c.from_vec.ensures
