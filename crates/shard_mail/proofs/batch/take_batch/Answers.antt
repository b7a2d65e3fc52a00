use Rattle.std.proofs.Common.{◌∙◌, ap, map, List}
use Rattle.std.specs.Prelude.{Result, Ok, Err, OnOk}
use Rattle.std.proofs.lemmas.Result.{IfOk-weaker}
use Rattle.rcp_base.specs.IpPrefix.{IpPrefix}
use Rattle.rcp_model.specs.Routes.{OfferFields}
use Rattle.rcp_model.specs.Packing.{packed}
use Rattle.update_pack.specs.Shown.{cell_of}
use Rattle.shard_mail.proofs.batch.take_batch.Goals as goal

-- what holds holds where there is an answer
where_ok : {T E : Type 0} (r : Result T E) (P : Type 0) → P → OnOk r P
where_ok (Ok x) P p = p
where_ok (Err e) P p = tt

pub returns : goal.returns
returns g c =
    let t = c.in_ok-take_offers.ensures in (
      t.0,
      t.1,
      where_ok c.pack.result _ t.2,
      IfOk-weaker c.pack.result _ _ (λ messages is. is ∙ ap (λ (offers : List OfferFields). packed (map cell_of offers)) (c.deref.ensures.value ∙ c.in_ok-offers.ensures ∙ ap (map (λ (entry : IpPrefix × OfferFields). entry.1)) t.3)) c.pack.ensures.packed,
    )
