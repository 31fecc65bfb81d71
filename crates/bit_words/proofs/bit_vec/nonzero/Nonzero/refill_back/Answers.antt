use Rattle.std.proofs.{Common.{◌*◌, inl, inr, refl, sym, ap, ◌∙◌, arith, rules}, lemmas.Bool.Decides.nat_tests}
use Rattle.bit_words.proofs.WalkLemmas.{index_fits, pulled_last_end}
use Rattle.bit_words.proofs.bit_vec.nonzero.Nonzero.refill_back.Goals as goal

pub is_nonzero-requires : goal.is_nonzero-requires
is_nonzero-requires g c = c.requires.of_back

pub returns-then-is_nonzero : goal.returns-then-is_nonzero
returns-then-is_nonzero g c = record {
  of_block = c.requires.of_block;
  of_back = c.requires.of_back;
  found = sym c.if-is_nonzero.true ∙ c.is_nonzero.ensures;
  refills = inl (record {
    some = grind (arith, nat_tests, c.is_nonzero.ensures, c.if-is_nonzero.true);
    is_found = refl;
    walk = refl;
    hand_stays = refl;
    other_stays = refl;
  });
}

pub overflow_mul-back_index : goal.overflow_mul-back_index
overflow_mul-back_index g c = record { fits = omega (arith, index_fits _ _ _ _ c.bits.ensures c.in-Some.ensures.found.0 c.requires.fits) }

pub returns-in-Some-clause-refills : goal.returns-in-Some-clause-refills
returns-in-Some-clause-refills g c = inr (inl (record {
  used_up = grind (arith, nat_tests, c.is_nonzero.ensures, c.if-is_nonzero.false);
  is_found = refl;
  k = c.in-Some.k;
  pulled = search rules;
  some = search rules;
  index = ap (λ b. c.in-Some.k * b) c.bits.ensures;
  other_stays = refl;
}))

pub returns-in-Some-clause-of_block : goal.returns-in-Some-clause-of_block
returns-in-Some-clause-of_block g c = c.requires.of_block

pub is_nonzero-requires-2 : goal.is_nonzero-requires-2
is_nonzero-requires-2 g c = c.requires.of_block

pub returns-then-is_nonzero-2 : goal.returns-then-is_nonzero-2
returns-then-is_nonzero-2 g c = record {
  of_back = c.requires.of_block;
  of_block = c.zero.ensures.of_block;
  found = sym c.if-is_nonzero-2.true ∙ c.is_nonzero-2.ensures;
  refills = inr (inr (inl (record {
    used_up = grind (arith, nat_tests, c.is_nonzero.ensures, c.if-is_nonzero.false);
    is_found = refl;
    none_left = c.in_default.ensures.steps;
    some = grind (arith, nat_tests, c.is_nonzero-2.ensures, c.if-is_nonzero-2.true);
    taken = refl;
    other_index = refl;
    other_used_up = c.zero.ensures.of_number;
  })));
}

pub invariant_of-self : goal.invariant_of-self
invariant_of-self g c = c.self.invariant

pub returns : goal.returns
returns g c = record {
  of_block = c.requires.of_block;
  of_back = c.requires.of_back;
  found = sym c.if-is_nonzero.false ∙ c.is_nonzero.ensures;
  refills = inr (inr (inr (record {
    used_up = grind (arith, nat_tests, c.is_nonzero.ensures, c.if-is_nonzero.false);
    not_found = refl;
    end =
        let is = c.self.view_is in
        let pulls = ap (λ v. v.pulls) is in
        pulled_last_end c.args.self.now c.take_last.new.self _ c.in_default.ensures.steps (ap (λ v. v.blocks) is) (ap (λ v. v.left) is) (omega (arith, c.tick.ensures, pulls))
        (ap (λ v. v.summary_pulls) is) (ap (λ v. v.summary_left) is);
    other_used_up = grind (arith, nat_tests, c.is_nonzero-2.ensures, c.if-is_nonzero-2.false);
    hand_stays = refl;
    other_stays = refl;
  })));
}
