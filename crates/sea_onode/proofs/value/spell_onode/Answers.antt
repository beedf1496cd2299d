use Rattle.std.proofs.Common.{◌≡◌, ◌∙◌, arith}
use Rattle.std.proofs.lemmas.Result.{IfOk-weaker}
use Rattle.sea_onode.specs.Spelling.{Spells}
use Rattle.sea_onode.proofs.Spelling.{onode_pushed}
use Rattle.sea_onode.proofs.value.spell_onode.Goals as goal

pub returns : goal.returns
returns c =
    IfOk-weaker c.from_vec.result (λ made. made ≡ c.push_u32-3.new.bytes.items) (λ made. Spells made c.args.onode) (λ made e. record {
      base = omega arith;
      size = omega arith;
      attrs = omega arith;
      keys = omega arith;
      spelled = e ∙ onode_pushed c.args.onode c.in_ok-bytes.bytes.items c.push_u64.new.bytes.items c.push_u32.new.bytes.items c.push_u32-2.new.bytes.items c.push_u32-3.new.bytes.items
          c.in_ok-bytes.ensures.items c.in_ok-push_u64.ensures c.in_ok-push_u32.ensures c.in_ok-push_u32-2.ensures c.in_ok-push_u32-3.ensures;
    }) c.from_vec.ensures
