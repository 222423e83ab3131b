use Rattle.std.proofs.Common.{◌≡◌, ◌<◌, length, get_or, take, sym, ap, ◌∙◌, arith}
use Rattle.std.proofs.lemmas.List.{get_or-map, length-map, take-map}
use Rattle.ifs_image.specs.Reading.{stands_in}
use Rattle.ifs_image.specs.Limits.{names_of}
use Rattle.ifs_image.proofs.Names.{is_refused, found_again, found_first, all_apart}
use Rattle.ifs_image.proofs.fitting.have_distinct_names.Goals as goal

pub returns-then-is_name_among : goal.returns-then-is_name_among
returns-then-is_name_among c =
    let states = c.args.states.now in
    let state = c.index-states-i.result in
    let i = c.loop-i.i in
    let lt : i < length (names_of states) = omega (arith, length-map states (λ s. s.name), c.loop-i-test.true) in
    let at : state.name ≡ get_or (names_of states) i state.name = ap (λ s. s.name) c.index-states-i.is ∙ sym (get_or-map (λ s. s.name) states i state state.name c.loop-i-test.true) in
    let tested : c.is_name_among.result ≡ stands_in c.as_bytes.result.now (take i (names_of states)) = c.is_name_among.ensures ∙ ap (stands_in c.as_bytes.result.now) (sym (take-map (λ s. s.name) i states)) in
    is_refused (found_again (names_of states) i state.name c.as_bytes.result.now c.is_name_among.result lt at c.as_bytes.ensures tested c.if-is_name_among.true)

pub loop-i-preserved : goal.loop-i-preserved
loop-i-preserved c =
    let states = c.args.states.now in
    let state = c.index-states-i.result in
    let i = c.loop-i.i in
    let lt : i < length (names_of states) = omega (arith, length-map states (λ s. s.name), c.loop-i-test.true) in
    let at : state.name ≡ get_or (names_of states) i state.name = ap (λ s. s.name) c.index-states-i.is ∙ sym (get_or-map (λ s. s.name) states i state state.name c.loop-i-test.true) in
    let tested : c.is_name_among.result ≡ stands_in c.as_bytes.result.now (take i (names_of states)) = c.is_name_among.ensures ∙ ap (stands_in c.as_bytes.result.now) (sym (take-map (λ s. s.name) i states)) in
    found_first (names_of states) i state.name c.as_bytes.result.now c.is_name_among.result lt at c.as_bytes.ensures tested c.if-is_name_among.false c.loop-i.invariant

pub returns : goal.returns
returns c = all_apart (names_of c.args.states.now) c.loop-i.i (omega (arith, length-map c.args.states.now (λ s. s.name), c.loop-i-test.false)) c.loop-i.invariant
