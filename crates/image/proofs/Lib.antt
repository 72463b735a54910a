mod Laws
mod Pages
