-- The routines of shared conditions, inits and bodies are good.
use Rattle.std.proofs.Common.{◌≡◌, ℕ, zero, suc, ◌+◌, ◌≤◌, List, [], ◌∷◌, ◌++◌, length}
use Rattle.std.proofs.Common.{refl, sym, ap, ◌∙◌, subst, arith, append_assoc, length-append}
use Rattle.ifs_base.specs.declared.op.Kind.{Kind}
use Rattle.ifs_base.specs.declared.op.Kind.TheVariants.{Truth}
use Rattle.ifs_base.specs.declared.op.Op.TheVariants.{Ret}
use Rattle.ifs_image.specs.declared.parts.ImageParts.{ImageParts}
use Rattle.ifs_gen.specs.Trees.{Condition, Block}
use Rattle.ifs_policy.specs.Meaning.{mentioned}
use Rattle.ifs_parse.specs.Trees.{condition_size}
use Rattle.ifs_gen.specs.PlainCode.{Coder, condition_code, condition_height, block_code, code_size}
use Rattle.ifs_gen.specs.PlainCode.{block_height, held_code, holding, body_start, body_end, body_code, init_code}
use Rattle.ifs_gen.specs.PolicyImage.{routine_of_code, shared_routine}
use Rattle.ifs_policy.specs.Fits.{ConditionFits, BlockFits}
use Rattle.ifs_gen.specs.Runs.{image_sizes}
use Rattle.ifs_gen.proofs.Simulation.{condition_sized, condition_high, block_sized}
use Rattle.ifs_gen.proofs.Mentions.{each_below, body_room}
use Rattle.ifs_gen.proofs.Handlers.{held_sized}
use Rattle.ifs_gen.proofs.Fine.{Callees, AreFine, fine_append, calls_right, IsGood}
use Rattle.ifs_gen.proofs.Typed.Trees.{condition_kinds, kinds_sized, held_kinds, held_kinds_sized, HasKinds}
use Rattle.ifs_gen.proofs.Typed.Trees.{kinds_left, kinds_right, condition_starts, condition_fine, condition_low}
use Rattle.ifs_gen.proofs.Typed.Trees.{held_starts, held_fine}
use Rattle.ifs_gen.proofs.Typed.Blocks.{IsTypedCoder, kinds_of_block, kinds_of_block_sized}
use Rattle.ifs_gen.proofs.Typed.Blocks.{block_starts, block_fine, block_low}

-- The kinds at a place of a list; none after its end.
abbrev pub listed : List (List Kind) → ℕ → List Kind
listed [] place = []
listed (k ∷ ks) zero = k
listed (k ∷ ks) (suc place) = listed ks place

listed_at : (front : List (List Kind)) (k : List Kind) (ks : List (List Kind)) → listed (front ++ k ∷ ks) (length front) ≡ k
listed_at [] k ks = refl
listed_at (x ∷ front) k ks = listed_at front k ks

has_listed : (front ks : List (List Kind)) → HasKinds (listed (front ++ ks)) (length front) ks
has_listed front [] = tt
has_listed front (k ∷ ks) =
    let long = length-append front (k ∷ []) in
    let all = front ++ k ∷ ks in (
      listed_at front k ks,
      subst (λ p. HasKinds (listed all) p ks) long
          (subst (λ xs. HasKinds (listed xs) (length (front ++ k ∷ [])) ks) (append_assoc front (k ∷ []) ks) (has_listed (front ++ k ∷ []) ks)),
    )

module _ (image : ImageParts) (callees : Callees) where
  -- The routine of a shared condition is good.
  pub shared_good : (c : Condition) → ConditionFits (image_sizes image) c → (good : IsGood image callees (shared_routine (condition_code c))) × (good.height ≡ condition_height c)
  shared_good c fits =
      let high = condition_height c in
      let end = condition_size c in
      let ks = condition_kinds [] c ++ (Truth ∷ []) ∷ [] in
      let has = has_listed [] ks in
      let own = kinds_left (listed ks) 0 (condition_kinds [] c) ((Truth ∷ []) ∷ []) has in
      let size = kinds_sized [] c in
      let past = kinds_right (listed ks) 0 (condition_kinds [] c) ((Truth ∷ []) ∷ []) (0 + end) (omega (arith, size)) has in
      let front = condition_code c in
      let long : length front ≡ end = condition_sized c in
      let from : 0 + end ≡ length front = omega (arith, long) in
      let fine = condition_fine image callees (listed ks) high end c 0 [] own past.0 fits (omega arith) in
      let good : IsGood image callees (shared_routine (condition_code c)) = record {
        front = front;
        code = refl;
        kinds = listed ks;
        height = high;
        fine = subst (λ e. AreFine image callees (listed ks) high e 0 front) (sym long) fine;
        start = condition_starts (listed ks) c 0 [] own;
        end = sym (ap (listed ks) from) ∙ past.0;
        room = condition_high c;
        least = λ other each calls.
            let within = subst (λ e. (place : ℕ) → place ≤ e → length (listed ks place) ≤ other) long each in
            let low = condition_low image callees (listed ks) other end within c 0 [] own past.0 (omega arith) in
            omega (arith, low);
      } in
      (good, refl)

  module _ (coder : Coder) (typed : IsTypedCoder image callees coder) (block : Block) (fits : BlockFits (image_sizes image) block) where
    abbrev high : ℕ
    high = block_height coder block

    abbrev kinds_of : List (List Kind)
    kinds_of = kinds_of_block image callees coder typed block

    -- An init is good.
    pub init_good : (good : IsGood image callees (routine_of_code (init_code coder block))) × (good.height ≡ high)
    init_good =
        let end = code_size coder block in
        let ks = kinds_of ++ [] ∷ [] in
        let has = has_listed [] ks in
        let own = kinds_left (listed ks) 0 kinds_of ([] ∷ []) has in
        let size = kinds_of_block_sized image callees coder typed block in
        let past = kinds_right (listed ks) 0 kinds_of ([] ∷ []) (0 + end) (omega (arith, size)) has in
        let front = block_code coder 0 block in
        let long : length front ≡ end = block_sized coder typed.sized 0 block in
        let from : 0 + end ≡ length front = omega (arith, long) in
        let fine = block_fine image callees coder typed (listed ks) high end block 0 own past.0 fits (omega arith) (omega arith) in
        let good : IsGood image callees (routine_of_code (init_code coder block)) = record {
          front = front;
          code = refl;
          kinds = listed ks;
          height = high;
          fine = subst (λ e. AreFine image callees (listed ks) high e 0 front) (sym long) fine;
          start = block_starts image callees coder typed (listed ks) high end block 0 own past.0;
          end = sym (ap (listed ks) from) ∙ past.0;
          room = omega arith;
          least = λ other each calls.
              let within = subst (λ e. (place : ℕ) → place ≤ e → length (listed ks place) ≤ other) long each in
              block_low image callees coder typed (listed ks) other end within block 0 own past.0 (omega arith) calls;
        } in
        (good, refl)

    -- A body is good.
    pub body_good : (good : IsGood image callees (routine_of_code (body_code coder (length image.tests) block))) × (good.height ≡ high)
    body_good =
        let count = length image.tests in
        let tests = holding count block in
        let start = body_start count block in
        let end = body_end coder count block in
        let kb = kinds_of ++ [] ∷ [] in
        let ks = held_kinds tests ++ kb in
        let has = has_listed [] ks in
        let held = kinds_left (listed ks) 0 (held_kinds tests) kb has in
        let held_size = held_kinds_sized tests in
        let rest = kinds_right (listed ks) 0 (held_kinds tests) kb start (omega (arith, held_size)) has in
        let own = kinds_left (listed ks) start kinds_of ([] ∷ []) rest in
        let size = kinds_of_block_sized image callees coder typed block in
        let past = kinds_right (listed ks) start kinds_of ([] ∷ []) end (omega (arith, size)) rest in
        let begins : start ≡ 0 + start = omega arith in
        let starts = block_starts image callees coder typed (listed ks) high end block start own past.0 in
        let there = sym (ap (listed ks) begins) ∙ starts in
        let code = block_code coder start block in
        let front = held_code end tests ++ code in
        let held_long = held_sized end tests in
        let code_long = block_sized coder typed.sized start block in
        let sum = length-append (held_code end tests) code in
        let long : length front ≡ end = omega (arith, sum, held_long, code_long) in
        let block_is_fine = block_fine image callees coder typed (listed ks) high end block start own past.0 fits (omega arith) (omega arith) in
        let held_is_fine = held_fine image callees (listed ks) high end tests 0 end held there past.0 (each_below count (mentioned block)) (body_room coder typed.high high count block (omega arith)) (omega arith) (omega arith) in
        let fine = fine_append image callees (listed ks) high end 0 (held_code end tests) code start (omega (arith, held_long)) held_is_fine block_is_fine in
        let good : IsGood image callees (routine_of_code (body_code coder (length image.tests) block)) = record {
          front = front;
          code = sym (append_assoc (held_code end tests) code (Ret ∷ []));
          kinds = listed ks;
          height = high;
          fine = subst (λ e. AreFine image callees (listed ks) high e 0 front) (sym long) fine;
          start = held_starts image callees (listed ks) high end tests 0 held there;
          end = ap (listed ks) long ∙ past.0;
          room = omega arith;
          least = λ other each calls.
              let within = subst (λ e. (place : ℕ) → place ≤ e → length (listed ks place) ≤ other) long each in
              let called = calls_right callees (listed ks) other 0 (held_code end tests) code start (omega (arith, held_long)) calls in
              block_low image callees coder typed (listed ks) other end within block start own past.0 (omega arith) called;
        } in
        (good, refl)
