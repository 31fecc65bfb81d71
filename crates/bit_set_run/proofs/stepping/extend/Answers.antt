use Rattle.std.proofs.Common.{◌≡◌, ◌<◌, ◌++◌, ◌∷◌, length, drop, ◌+◌, refl, sym, ap, ◌∙◌, append-nil, []}
use Rattle.std.proofs.iter.Yields.{Copied-Drains}
use Rattle.bit_set.{specs.{Bounds.greatest, Sets.{has, put_all}}, proofs.ValueLemmas.has-past}
use Rattle.bit_set_run.specs.{Elements.elements_of, Run.elements_before_greatest}
use Rattle.bit_set_run.proofs.SteppingLemmas.{none_greatest, some_greatest, before_taken, front_before, copied_along, copied_before}
use Rattle.bit_set_run.proofs.stepping.extend.Goals as goal

pub returns-in-Ok-clause-reply : goal.returns-in-Ok-clause-reply
returns-in-Ok-clause-reply g c =
    let h = c.in-Ok.ensures.ok in
    let shown : c.copied.result.iter.rest.now ≡ c.args.items.now = cc in
    let whole : h.0 ≡ c.args.items.now = Copied-Drains c.copied.result h.0 h.1 ∙ shown in
    rw (← whole, none_greatest h.0 h.2.fit) refl

pub returns-in-Ok-clause-after : goal.returns-in-Ok-clause-after
returns-in-Ok-clause-after g c =
    let h = c.in-Ok.ensures.ok in
    let shown : c.copied.result.iter.rest.now ≡ c.args.items.now = cc in
    let whole : h.0 ≡ c.args.items.now = Copied-Drains c.copied.result h.0 h.1 ∙ shown in
    h.2.members ∙ ap (put_all (elements_of c.args.set.now)) (sym (append-nil h.0) ∙ sym (front_before h.0 [] h.2.fit) ∙ ap elements_before_greatest (append-nil h.0 ∙ whole))

pub returns-in-Ok-clause-grown : goal.returns-in-Ok-clause-grown
returns-in-Ok-clause-grown g c =
    let shown : c.copied.result.iter.rest.now ≡ c.args.items.now = cc in
    (λ below. c.extend.ensures.within (copied_along c.copied.result c.args.items.now (λ n. n < c.args.set.now.capacity) shown below), c.extend.ensures.capacity)

pub returns-in-Err-Element : goal.returns-in-Err-Element
returns-in-Err-Element g c =
    let h = c.in-Err-Element.ensures.err in
    let shown : c.copied.result.iter.rest.now ≡ c.args.items.now = cc in
    let before = copied_before c.copied.result h.2 c.args.items.now h.0 h.1 shown h.3 in
    let whole : c.args.items.now ≡ h.0 ++ greatest ∷ drop (length h.0 + 1) c.args.items.now = before ∙ ap (λ n. h.0 ++ n ∷ drop (length h.0 + 1) c.args.items.now) (rw c.in-Err-Element.field-0-is at h.6) in
    record {
      reply = rw (whole, some_greatest h.0 (drop (length h.0 + 1) c.args.items.now) h.4.fit) refl;
      after = h.4.members ∙ ap (put_all (elements_of c.args.set.now)) (sym (append-nil h.0) ∙ sym (front_before h.0 (greatest ∷ drop (length h.0 + 1) c.args.items.now) h.4.fit) ∙ ap elements_before_greatest (sym whole));
      fails = tt;
      grown = (λ below. c.extend.ensures.within (copied_along c.copied.result c.args.items.now (λ n. n < c.args.set.now.capacity) shown below), c.extend.ensures.capacity);
      capacity = c.extend.ensures.capacity;
    }

pub returns-in-Err-Memory-clause-fails : goal.returns-in-Err-Memory-clause-fails
returns-in-Err-Memory-clause-fails g c =
    let h = c.in-Err-Memory.ensures.err in
    let shown : c.copied.result.iter.rest.now ≡ c.args.items.now = cc in
    let before = copied_before c.copied.result h.2 c.args.items.now h.0 h.1 shown h.3 in
    let rest = drop (length h.0 + 1) c.args.items.now in
    let low : h.1 < greatest = (rw c.in-Err-Memory.field-0-is at h.6).1 in
    (h.0, h.1, elements_before_greatest rest, ap elements_before_greatest before ∙ front_before h.0 (h.1 ∷ rest) h.4.fit ∙ ap (λ xs. h.0 ++ xs) (before_taken h.1 rest low), ap (λ s. has s h.1) (sym h.4.members) ∙ has-past c.extend.new.self.values h.1 h.5, h.4.members)
