use Rattle.std.proofs.Common.{rules, ap₂, sym, ◌∙◌, ◌≡◌, ◌≤◌, true, length, subst, IfSome}
use Rattle.std.specs.Prelude.{◌&&◌}
use Rattle.rl_ids.specs.Objects.{is_hash}
use Rattle.rl_ids.proofs.Hashes.{hash_length, hash_form, yes_le}
use Rattle.rl_ids.proofs.object_texts.make_object_id.Goals as goal

pub unwrap-hash-requires : goal.unwrap-hash-requires
unwrap-hash-requires c =
    let text = c.as_str.ensures.value ∙ c.in_ok-text.ensures.text in
    c.from_text.ensures.fits.1 (subst (λ t. length t ≤ 64) (sym text) (hash_length c.finalize.result (search rules) (search rules)))

pub returns-clause-form : goal.returns-clause-form
returns-clause-form c =
    let text = c.as_str.ensures.value ∙ c.in_ok-text.ensures.text in
    let own = subst (λ o. IfSome o (λ hash. hash ≡ c.as_str.result.now)) c.unwrap-hash.ensures c.from_text.ensures.value in
    ap₂ (λ a b. a && b) (subst (λ t. is_hash t ≡ true) (sym (own ∙ text)) (hash_form c.finalize.result (search rules) (search rules)))
    (yes_le c.args.millis 9007199254740991 c.requires)
