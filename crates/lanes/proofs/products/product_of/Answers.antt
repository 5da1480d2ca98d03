-- With 2 ^ 32 the product of two words is not below zero.
use Rattle.lanes.proofs.WordProducts.{products}
use Rattle.lanes.proofs.products.product_of.Goals as goal

pub overflow_cast-result-2 : goal.overflow_cast-result-2
overflow_cast-result-2 c = search products

pub returns : goal.returns
returns c = search products
