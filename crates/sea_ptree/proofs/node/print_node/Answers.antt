use Rattle.std.proofs.Common.{◌≡◌, ℕ, ◌++◌, List, take, length, sym, ap, ◌∙◌, arith, append-nil}
use Rattle.std.proofs.lemmas.List.{take_all}
use Rattle.std.proofs.lemmas.Result.{IfOk-weaker}
use Rattle.sea_ptree.specs.Node.{Entry, front_bytes, node_bytes, entries_bytes}
use Rattle.sea_ptree.proofs.Printing.{front_put, node_put}
use Rattle.sea_ptree.proofs.node.print_node.Goals as goal

pub loop-key-init : goal.loop-key-init
loop-key-init c =
    front_put c.args.kind c.args.level (length c.args.entries.now) c.extend_from_slice-3.new.self.len c.in_ok-bytes.bytes.items c.extend_from_slice.new.self.items c.extend_from_slice-2.new.self.items c.extend_from_slice-3.new.self.items c.resize.new.self.items c.put_u16.new.bytes
    c.in_ok-bytes.ensures.items (c.in_ok-extend_from_slice.ensures.items ∙ ap (λ (x : List ℕ). c.in_ok-bytes.bytes.items ++ x) c.word.ensures) c.in_ok-extend_from_slice-2.ensures.items c.put_u16.ensures c.in_ok-extend_from_slice-3.ensures.items c.extend_from_slice-3.new.self.ok.0 c.in_ok-resize.ensures.items
    ∙ sym (append-nil (front_bytes c.args.kind c.args.level (length c.args.entries.now)))

pub returns : goal.returns
returns c =
    let es : List Entry = c.args.entries.now in
    let front = front_bytes c.args.kind c.args.level (length es) in
    let all : take c.loop-key.key-index es ≡ es = take_all c.loop-key.key-index es (omega (arith, c.loop-key-test.false)) in
    let whole = node_put c.args.kind c.args.level c.loop-key.bytes.len es c.loop-key.bytes.items c.resize-2.new.self.items c.requires.room (c.loop-key.invariant ∙ ap (λ (xs : List Entry). front ++ entries_bytes xs) all) c.loop-key.bytes.ok.0 c.in_ok-resize-2.ensures.items in
    IfOk-weaker c.from_vec.result (λ block. block ≡ c.resize-2.new.self.items) (λ block. block ≡ node_bytes c.args.kind c.args.level es) (λ block is. is ∙ whole) c.from_vec.ensures
