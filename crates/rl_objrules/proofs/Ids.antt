-- The order of ids, by their texts.
use Rattle.std.proofs.Common.{◌≡◌, ap, sym, ◌∙◌}
use Rattle.std.specs.declared.cmp.Ordering.TheVariants.{Less, Equal, Greater}
use Rattle.std.specs.Ordering.{ordering_reverse}
use Rattle.std.specs.Cmp.{IsTotalOrder}
use Rattle.std.proofs.lemmas.Cmp.{nat_list_cmp_total, on_total, tied_itself}
use Rattle.rl_ids.specs.declared.objects.ObjectId.{ObjectId}
use Rattle.rl_ids.specs.Objects.{object_id_text, id_cmp}

pub ids_total : IsTotalOrder id_cmp
ids_total = on_total object_id_text nat_list_cmp_total

pub before_itself : (a : ObjectId) → id_cmp a a ≡ Equal
before_itself a = tied_itself ids_total a

pub turned : (a b : ObjectId) → id_cmp a b ≡ ordering_reverse (id_cmp b a)
turned a b = ids_total.antisymm a b

pub before_all : (a b c : ObjectId) → id_cmp a b ≡ Less → id_cmp b c ≡ Less → id_cmp a c ≡ Less
before_all a b c h k = ids_total.trans a b c h k

pub less_of_greater : (a b : ObjectId) → id_cmp a b ≡ Greater → id_cmp b a ≡ Less
less_of_greater a b h = turned b a ∙ ap ordering_reverse h

pub greater_of_less : (a b : ObjectId) → id_cmp a b ≡ Less → id_cmp b a ≡ Greater
greater_of_less a b h = turned b a ∙ ap ordering_reverse h

-- an id in place of one with the same text

pub tied_left : (a b c : ObjectId) → id_cmp a b ≡ Equal → id_cmp a c ≡ id_cmp b c
tied_left a b c h = ids_total.congr a b c h

pub tied_right : (a b c : ObjectId) → id_cmp a b ≡ Equal → id_cmp c a ≡ id_cmp c b
tied_right a b c h = turned c a ∙ ap ordering_reverse (tied_left a b c h) ∙ sym (turned c b)
