use Rattle.std.proofs.Common.{refl}
use Rattle.ifs_image.specs.Spelling.{image_bytes}
use Rattle.ifs_image.proofs.writing.write.Goals as goal

pub returns : goal.returns
unfolding image_bytes
returns c =
    let same = c.parts-parts.ensures.value in
    record {
      fits = c.parts-parts.ensures.fits;
      in_range = record {
        initial = rw same at c.in_ok-put_u16.ensures.in_range;
        always = rw same at c.in_ok-put_handlers.ensures.in_range;
        interfaces = rw (c.as_slice.ensures, same) at c.in_ok-put_texts.ensures.in_range;
        tests = rw (c.as_slice-2.ensures, same) at c.in_ok-put_tests.ensures.in_range;
        commands = rw (c.as_slice-3.ensures, same) at c.in_ok-put_texts-2.ensures.in_range;
        states = rw (c.as_slice-4.ensures, same) at c.in_ok-put_states.ensures.in_range;
        routines = rw (c.as_slice-5.ensures, same) at c.in_ok-put_routines.ensures.in_range;
      };
      bytes_are = rw (c.in_ok-put_routines.ensures.bytes, c.in_ok-put_states.ensures.bytes, c.in_ok-put_texts-2.ensures.bytes, c.in_ok-put_tests.ensures.bytes, c.in_ok-put_texts.ensures.bytes, c.in_ok-put_handlers.ensures.bytes, c.in_ok-put_u16.ensures.bytes, c.in_ok-put_counts.ensures, c.in_ok-put_budgets.ensures, c.in_ok-put_front.ensures, c.new-out.ensures.items, c.as_slice.ensures, c.as_slice-2.ensures, c.as_slice-3.ensures, c.as_slice-4.ensures, c.as_slice-5.ensures, same) refl;
    }
