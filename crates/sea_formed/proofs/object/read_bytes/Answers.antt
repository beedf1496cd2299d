use Rattle.std.proofs.Common.{rules, ◌≡◌, ◌∷◌, ◌++◌, [], ℕ, List, sym, ap, ◌∙◌}
use Rattle.sea_data.specs.Bytes.{bytes_from}
use Rattle.sea_formed.specs.Blocks.{store_of}
use Rattle.sea_formed.proofs.Gathered.{bytes_none, bytes_more}
use Rattle.sea_formed.proofs.object.read_bytes.Goals as goal

pub loop-index-init : goal.loop-index-init
loop-index-init c = c.new-bytes.ensures.items ∙ sym (bytes_none (store_of c.args.blocks.now) c.args.onode.base.0)

pub loop-index-preserved : goal.loop-index-preserved
loop-index-preserved c =
    let pushed : c.push.new.self.items ≡ c.loop-index.bytes.items ++ c.byte_of.result ∷ [] = search rules in
    pushed ∙ ap (λ (l : List ℕ). l ++ c.byte_of.result ∷ []) c.loop-index.invariant ∙ ap (λ (b : ℕ). bytes_from (store_of c.args.blocks.now) c.args.onode.base.0 0 c.loop-index.index ++ b ∷ []) c.byte_of.ensures ∙ sym (bytes_more (store_of c.args.blocks.now) c.args.onode.base.0 c.loop-index.index)
