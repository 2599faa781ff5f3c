use Rattle.algebra.proofs.CosetProduct.{coset_product_lem}
use Rattle.algebra.proofs.coset_product.Goals as goal

pub returns : goal.returns
returns g c = λ ops laws. coset_product_lem laws
