-- One more definition, and the end of the text.
use Rattle.std.proofs.Common.{◌++◌, Some, None, lit<, rules, ap, ◌∙◌, sym, subst}
use Rattle.std.proofs.lemmas.Str.Pattern.{split_after, split_parts}
use Rattle.ifs_lex.specs.Expansion.{defined_by}
use Rattle.ifs_ffi.specs.Definitions.{Gives}
use Rattle.ifs_ffi.proofs.Parts.{one_more, all_read, none_left, one_defined, first_of, no_first}
use Rattle.ifs_ffi.proofs.definitions.definitions_in.Goals as goal

pub words-init : goal.words-init
words-init c = (
  search rules,
  λ defs gives. subst (λ items. Gives c.args.text.now (defined_by items ++ defs)) (sym c.new-made.ensures.items) gives,
  λ defs gives. (defs, gives),
)

pub words-preserved : goal.words-preserved
words-preserved c =
    let parts = split_parts 0 c.words.left.now (Some (c.in-Some.word, c.in-Some.rest)) c.in-Some.ensures.cases (lit< tt) in (
      search rules,
      one_more c.args.text.now c.words.left.now c.in-Some.word.now c.in-Some.rest.now _ _ (defined_by c.words.made.items) _ c.words.invariant.1 parts.0 parts.1
          c.in-Some-definition_of.ensures.found (ap defined_by (rw c.in-Ok.is at c.push.ensures.items) ∙ one_defined c.words.made.items c.in-Some-definition_of.definition),
      λ defs gives.
          let way = c.words.invariant.2 defs gives in
          let first = first_of c.words.left.now c.in-Some.word.now c.in-Some.rest.now way.0 way.1 parts.0
          (λ xs ys. split_after 0 c.words.left.now xs ys (Some (c.in-Some.word, c.in-Some.rest)) c.in-Some.ensures.cases (lit< tt)) in
          (first.3, first.4),
    )

pub returns-in_default-definition_of-clause-none : goal.returns-in_default-definition_of-clause-none
returns-in_default-definition_of-clause-none c = λ same are.
    let way = c.words.invariant.2 are.defs are.gives in
    let parts = split_parts 0 c.words.left.now (Some (c.in-Some.word, c.in-Some.rest)) c.in-Some.ensures.cases (lit< tt) in
    let first = first_of c.words.left.now c.in-Some.word.now c.in-Some.rest.now way.0 way.1 parts.0
    (λ xs ys. split_after 0 c.words.left.now xs ys (Some (c.in-Some.word, c.in-Some.rest)) c.in-Some.ensures.cases (lit< tt)) in
    c.in_default-definition_of.ensures.only first.0 first.1 first.2

pub returns-then-is_empty-clause-given : goal.returns-then-is_empty-clause-given
returns-then-is_empty-clause-given c = all_read c.args.text.now c.words.left.now (defined_by c.words.made.items) c.words.invariant.1 (none_left c.words.left.now c.if-is_empty.ensures)

pub returns-clause-none : goal.returns-clause-none
returns-clause-none c = λ same are.
    let way = c.words.invariant.2 are.defs are.gives in
    no_first c.words.left.now way.0 way.1 (λ xs ys. split_after 0 c.words.left.now xs ys None c.in_default.ensures.cases (lit< tt)) c.if-is_empty.ensures
