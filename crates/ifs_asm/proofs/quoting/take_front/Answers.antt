use Rattle.std.proofs.Common.{length, length-drop, refl, ap, arith}
use Rattle.ifs_asm.specs.Spellings.{is_plain}
use Rattle.ifs_asm.proofs.Finds.{takes, run_ends}
use Rattle.ifs_asm.proofs.quoting.take_front.Goals as goal

pub returns : goal.returns
returns g c = record {
  text = takes c.args.left.now c.args.bytes.now.items c.put_front.new.bytes.items c.split_at.result.1.now _ c.args.run c.requires.plain refl c.split_at.ensures.back c.in_ok-put_front.ensures;
  shorter = omega (arith, ap length c.split_at.ensures.back, length-drop c.args.run c.args.left.now);
  whole = run_ends is_plain c.args.left.now c.split_at.result.1.now c.args.run c.requires.plain c.split_at.ensures.back;
}
