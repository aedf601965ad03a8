pub mod PutKeys
pub mod RaisableTexts
