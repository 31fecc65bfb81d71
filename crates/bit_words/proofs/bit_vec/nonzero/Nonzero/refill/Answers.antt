use Rattle.std.proofs.{Common.{◌*◌, inl, inr, refl, sym, ap, ◌∙◌, arith, rules}, lemmas.Bool.Decides.nat_tests}
use Rattle.bit_words.proofs.WalkLemmas.{index_fits, pulled_end}
use Rattle.bit_words.proofs.bit_vec.nonzero.Nonzero.refill.Goals as goal

pub is_nonzero-requires : goal.is_nonzero-requires
is_nonzero-requires g c = c.requires.of_block

pub returns-then-is_nonzero : goal.returns-then-is_nonzero
returns-then-is_nonzero g c = record {
  of_block = c.requires.of_block;
  of_back = c.requires.of_back;
  found = sym c.if-is_nonzero.true ∙ c.is_nonzero.ensures;
  refills = inl (record {
    some = grind (arith, nat_tests, c.is_nonzero.ensures, c.if-is_nonzero.true);
    is_found = refl;
    walk = refl;
    hand_stays = refl;
    other_stays = refl;
  });
}

pub overflow_mul-index : goal.overflow_mul-index
overflow_mul-index g c = record { fits = omega (arith, index_fits _ _ _ _ c.bits.ensures c.in-Some.ensures.found.0 c.requires.fits) }

pub returns-in-Some-clause-refills : goal.returns-in-Some-clause-refills
returns-in-Some-clause-refills g c = inr (inl (record {
  used_up = grind (arith, nat_tests, c.is_nonzero.ensures, c.if-is_nonzero.false);
  is_found = refl;
  k = c.in-Some.k;
  pulled = search rules;
  some = search rules;
  index = ap (λ b. c.in-Some.k * b) c.bits.ensures;
  other_stays = refl;
}))

pub returns-in-Some-clause-of_back : goal.returns-in-Some-clause-of_back
returns-in-Some-clause-of_back g c = c.requires.of_back

pub is_nonzero-requires-2 : goal.is_nonzero-requires-2
is_nonzero-requires-2 g c = c.requires.of_back

pub returns-then-is_nonzero-2 : goal.returns-then-is_nonzero-2
returns-then-is_nonzero-2 g c = record {
  of_block = c.requires.of_back;
  of_back = c.zero.ensures.of_block;
  found = sym c.if-is_nonzero-2.true ∙ c.is_nonzero-2.ensures;
  refills = inr (inr (inl (record {
    used_up = grind (arith, nat_tests, c.is_nonzero.ensures, c.if-is_nonzero.false);
    is_found = refl;
    none_left = c.in_default.ensures.steps;
    some = grind (arith, nat_tests, c.is_nonzero-2.ensures, c.if-is_nonzero-2.true);
    taken = refl;
    other_index = refl;
    other_used_up = c.zero.ensures.of_number;
  })));
}

pub count_end-requires : goal.count_end-requires
count_end-requires g c = record { left = c.in_default.ensures.steps.item.1; summary = c.in_default.ensures.steps.ended }

pub returns : goal.returns
returns g c = record {
  of_block = c.requires.of_block;
  of_back = c.requires.of_back;
  found = sym c.if-is_nonzero.false ∙ c.is_nonzero.ensures;
  refills = inr (inr (inr (record {
    used_up = grind (arith, nat_tests, c.is_nonzero.ensures, c.if-is_nonzero.false);
    not_found = refl;
    end =
        let end = c.count_end.ensures in
        pulled_end c.args.self.now c.take_first.new.self c.count_end.new.self c.in_default.ensures.steps end.blocks end.left end.pulls end.summary_pulls end.summary_left;
    other_used_up = grind (arith, nat_tests, c.is_nonzero-2.ensures, c.if-is_nonzero-2.false);
    hand_stays = refl;
    other_stays = refl;
  })));
}
