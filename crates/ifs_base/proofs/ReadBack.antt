-- `op_of` reads each instruction back from its four bytes.
use Rattle.std.proofs.Common.{◌≡◌, ℕ, ◌+◌, ◌*◌, ◌/◌, ◌%◌, refl, ap, arith}
use Rattle.ifs_base.specs.declared.op.LinkState.TheVariants.{Unknown, Down, Up}
use Rattle.ifs_base.specs.declared.op.Op.TheVariants.{Ret, Yes, No, Link, Test, Known, Negate, Both}
use Rattle.ifs_base.specs.declared.op.Op.TheVariants.{Either, PushCommand, PushState, Queue, Want}
use Rattle.ifs_base.specs.declared.op.Op.TheVariants.{Jump, JumpFalse, JumpTrue, Call, Pop, Dup}
use Rattle.ifs_base.specs.Spelling.{op_with, IsReadBack}

-- A number is made of its two bytes.
two_bytes : (n : ℕ) → 256 * (n / 256) + n % 256 ≡ n
two_bytes n = omega arith

-- An operand is read from its two bytes.
with_operand : (code state n : ℕ) → op_with code state (256 * (n / 256) + n % 256) ≡ op_with code state n
with_operand code state n = ap (op_with code state) (two_bytes n)

pub read_back : IsReadBack
read_back Ret = refl
read_back Yes = refl
read_back No = refl
read_back (Link n Unknown) = with_operand 0x03 0 n.0
read_back (Link n Down) = with_operand 0x03 1 n.0
read_back (Link n Up) = with_operand 0x03 2 n.0
read_back (Test n) = with_operand 0x04 0 n.0
read_back (Known n) = with_operand 0x05 0 n.0
read_back Negate = refl
read_back Both = refl
read_back Either = refl
read_back (PushCommand n) = with_operand 0x09 0 n.0
read_back (PushState n) = with_operand 0x0a 0 n.0
read_back Queue = refl
read_back Want = refl
read_back (Jump n) = with_operand 0x0d 0 n
read_back (JumpFalse n) = with_operand 0x0e 0 n
read_back (JumpTrue n) = with_operand 0x0f 0 n
read_back (Call n) = with_operand 0x10 0 n.0
read_back Pop = refl
read_back Dup = refl
