use Rattle.std.proofs.Common.{sym, subst}
use Rattle.ifs_asm.specs.Spellings.{TextSpells}
use Rattle.ifs_asm.proofs.Puts.{whole_text}
use Rattle.ifs_asm.proofs.ImageLaws.{canonical_spells}
use Rattle.ifs_asm.proofs.printing.disassemble.Goals as goal

pub returns : goal.returns
returns c =
    let same = c.parts-parts.ensures.value in
    let is_canonical =
    whole_text c.args.image.now _ _ _ _ _ _ _ c.new-out.ensures.bytes
    (rw same at c.in_ok-put_front.ensures.bytes)
    (rw (c.as_slice.ensures, same) at c.in_ok-put_each.ensures.bytes)
    (rw (c.as_slice-2.ensures, same) at c.in_ok-put_each-2.ensures.bytes)
    (rw (c.as_slice-3.ensures, same) at c.in_ok-put_each-3.ensures.bytes)
    (rw (c.as_slice-4.ensures, same) at c.in_ok-put_each-4.ensures.bytes)
    (rw (c.of-version.ensures, c.as_slice-5.ensures, same) at c.in_ok-put_each-5.ensures.bytes) in
    record {
      canonical = is_canonical;
      spelled = subst (λ text. TextSpells text c.args.image.now) (sym is_canonical) (canonical_spells c.args.image.now c.parts-parts.ensures.fits (record {
        initial = rw same at c.in_ok-put_front.ensures.initial;
        always = rw same at c.in_ok-put_front.ensures.always;
        interfaces = rw (c.as_slice.ensures, same) at c.in_ok-put_each.ensures.in_range;
        tests = rw (c.as_slice-2.ensures, same) at c.in_ok-put_each-2.ensures.in_range;
        commands = rw (c.as_slice-3.ensures, same) at c.in_ok-put_each-3.ensures.in_range;
        states = rw (c.as_slice-4.ensures, same) at c.in_ok-put_each-4.ensures.in_range;
        routines = rw (c.as_slice-5.ensures, same) at c.in_ok-put_each-5.ensures.in_range;
      }));
    }
